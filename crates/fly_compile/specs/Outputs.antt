-- What nodes give, as it is kept.
use Rattle.std.specs.Prelude.{◌≡◌, Bool, List, [], map, Some, None, unwrap_or, option_map}
use Rattle.std.specs.List.{All}
use Rattle.fly_types.specs.declared.text.Text.{Text}
use Rattle.fly_types.specs.declared.kinds.LiteralType.TheVariants as type
use Rattle.fly_types.specs.declared.variable.Variable.{Variable}
use Rattle.fly_types.specs.Lookup.{AreVariablesSorted}
use Rattle.fly_cast.specs.Fitting.{each_value}
use Rattle.fly_docs.specs.declared.workflow.Workflow.{Workflow}
use Rattle.fly_docs.specs.declared.workflow.Bundle.{Bundle}
use Rattle.fly_docs.specs.Interfaces.{common_variables}
use Rattle.fly_docs.specs.NodeInterfaces.{Found, Source, of_anything, source_in, outputs_of}
use Rattle.fly_docs.specs.Plans.{nodes_of}
use Rattle.fly_compile.specs.declared.outputs.Output.{Output}
use Rattle.fly_compile.specs.declared.outputs.Outputs.{Outputs}
use Rattle.fly_compile.specs.declared.outputs.Outputs.TheVariants as outputs
use Rattle.fly_faults.specs.OutputTypes.{item_type, type_of_output}

abbrev pub output_variable : Output → Variable
output_variable o = record { name = o.name.now; kind = type_of_output o.kind }

-- an output of an array, by that of its task
abbrev pub item_variable : Bool → Variable → Variable
item_variable may_lack v = record { name = v.name; kind = type.Collection (item_type may_lack v.kind) }

abbrev pub outputs_value : Outputs → Found
outputs_value outputs.Unknown = None
outputs_value (outputs.Plain variables) = Some variables.now
outputs_value (outputs.Items variables may_lack) = Some (map (item_variable may_lack) variables.now)
outputs_value (outputs.Common common) = Some (map output_variable common.items)

-- the variables, none where they are unknown
abbrev pub known_variables : Outputs → List Variable
known_variables o = unwrap_or (outputs_value o) []

-- their names rise
abbrev pub AreOutputsSorted : Outputs → Type 0
AreOutputsSorted o = AreVariablesSorted (known_variables o)

-- what a promise is of, by what its node gives
abbrev pub source_found : Text → Found → Source
source_found name None = of_anything
source_found name (Some variables) = source_in name variables

-- what a branch gives, by what its cases give
abbrev pub common_of : List Found → Found
common_of found = option_map common_variables (each_value (λ outputs. outputs) found)

-- the outputs of the workflow's nodes, by their places
pub record AreOutputsOf (b : Bundle) (w : Workflow) (list : List Outputs) : Type 0 where
  pub values : map outputs_value list ≡ map (outputs_of b) (nodes_of w)
  pub sorted : All AreOutputsSorted list
  pub inputs : AreVariablesSorted w.interface.inputs
