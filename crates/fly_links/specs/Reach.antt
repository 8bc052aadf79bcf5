-- How large the run of a bundle is.
use Rattle.std.specs.Prelude.{ℕ, ◌+◌, Bool, List, filter, count_by, option_to_list}
use Rattle.std.specs.List.{list_any}
use Rattle.fly_docs.specs.declared.workflow.Workflow.{Workflow}
use Rattle.fly_docs.specs.declared.workflow.Bundle.{Bundle}
use Rattle.fly_docs.specs.Plans.{PlanNode, plan_of, is_array, max_nesting}
use Rattle.fly_docs.specs.Reaching.{reaches, goes_on, workflow_edges, primary_place, reached_places}

-- the reached workflows that reach themselves, in the order of the bundle
abbrev pub recursive_places : Bundle → List (ℕ × Workflow)
recursive_places b = filter (λ (at : ℕ × Workflow). reaches (workflow_edges b) at.0 at.0) (reached_places b)

-- a chain of workflow nodes that begins in the primary workflow is longer than workflow nodes may nest
abbrev pub nests_too_deep : Bundle → Bool
nests_too_deep b = list_any (goes_on (workflow_edges b) (max_nesting + 1)) (option_to_list (primary_place b))

-- how many nodes a run may have, and how many of them may be arrays
abbrev pub max_plan : ℕ
max_plan = 4096

abbrev pub max_arrays : ℕ
max_arrays = 16

-- the arrays of the run
abbrev pub array_count : Bundle → ℕ
array_count b = count_by (λ (p : PlanNode). is_array p.node) (plan_of b)
