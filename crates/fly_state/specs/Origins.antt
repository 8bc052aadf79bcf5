-- What promises in the run's own workflow are of.
use Rattle.std.specs.Prelude.{Option, Some, None}
use Rattle.fly_docs.specs.declared.workflow.Workflow.{Workflow}
use Rattle.fly_docs.specs.Bindings.{Promised}
use Rattle.fly_docs.specs.Lookups.{primary_of}
use Rattle.fly_docs.specs.NodeInterfaces.{Source, of_type, of_anything, no_node, no_variable, source_of}
use Rattle.fly_state.specs.declared.origins.Origin.{Origin}
use Rattle.fly_state.specs.declared.origins.Origin.TheVariants as origin
use Rattle.fly_state.specs.Plans.{RunPlan}

-- the source that a value of the program stands for
abbrev pub source_of_origin : Origin → Source
source_of_origin (origin.Type kind) = of_type kind.now
source_of_origin origin.Anything = of_anything
source_of_origin origin.NoNode = no_node
source_of_origin origin.NoVariable = no_variable

abbrev pub source_within : RunPlan → Option Workflow → Promised → Source
source_within plan (Some w) promise = source_of plan.documents w promise
source_within plan None promise = no_node

-- what a promise in the primary workflow is of
abbrev pub source_in_run : RunPlan → Promised → Source
source_in_run plan = source_within plan (primary_of plan.documents)
