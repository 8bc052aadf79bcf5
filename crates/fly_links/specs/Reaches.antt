-- What workflows run, by places.
use Rattle.std.specs.Prelude.{ℕ, Bool, List, map, flat_map, filter_map, option_and_then, option_to_list}
use Rattle.std.specs.List.{list_any}
use Rattle.fly_docs.specs.declared.node.Node.{Node}
use Rattle.fly_docs.specs.declared.workflow.Workflow.{Workflow}
use Rattle.fly_docs.specs.declared.workflow.Bundle.{Bundle}
use Rattle.fly_docs.specs.Plans.{nodes_of}
use Rattle.fly_docs.specs.Reaching.{run_places, primary_place, is_reached_from, task_place, task_id_of}

-- the places of the workflows that each workflow runs
abbrev pub runs_by_place : Bundle → List (List ℕ)
runs_by_place b = map (run_places b) b.workflows

-- the workflow at the place is the primary, or one that it reaches
abbrev pub is_reached_place : Bundle → ℕ → Bool
is_reached_place b place = list_any (λ primary. is_reached_from b primary place) (option_to_list (primary_place b))

-- the places of the tasks that the nodes of workflows run
abbrev pub tasks_run : Bundle → List Workflow → List ℕ
tasks_run b workflows = flat_map (λ w. filter_map (λ (n : Node). option_and_then (task_place b) (task_id_of n)) (nodes_of w)) workflows
