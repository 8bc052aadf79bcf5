-- What the primary workflow reaches through workflow nodes, and which tasks it then runs.
use Rattle.std.specs.Prelude.{◌≡◌, ◌⊎◌, ℕ, zero, suc, ◌==◌, Bool, true, false, not, ◌&&◌, ◌||◌, List, [], ◌∷◌, map, filter, flat_map, filter_map, position, slice_get, Contains, Option, Some, None, option_and_then, option_to_list}
use Rattle.std.specs.List.{list_any, enumerate_from}
use Rattle.fly_graph.specs.Walks.{Reaches}
use Rattle.fly_docs.specs.declared.names.Identifier.{Identifier}
use Rattle.fly_docs.specs.declared.task.Task.{Task}
use Rattle.fly_docs.specs.declared.node.Node.{Node}
use Rattle.fly_docs.specs.declared.node.Case.{Case}
use Rattle.fly_docs.specs.declared.node.Target.{Target, out-Target}
use Rattle.fly_docs.specs.declared.node.Target.TheOpen.{Target-F}
use Rattle.fly_docs.specs.declared.workflow.Workflow.{Workflow}
use Rattle.fly_docs.specs.declared.workflow.Bundle.{Bundle}
use Rattle.fly_docs.specs.Lookups.{is_same, task_named}
use Rattle.fly_docs.specs.Plans.{nodes_of, subworkflow_id}

-- ---- along edges

-- A walk of one or more edges leads from u to v: without the first edge of the list, or up to that edge, along it and on from its end.
unfoldable pub reaches : List (ℕ × ℕ) → ℕ → ℕ → Bool
reaches [] u v = false
reaches (edge ∷ edges) u v =
    reaches edges u v || ((u == edge.0 || reaches edges u edge.0) && (edge.1 == v || reaches edges edge.1 v))

-- a walk of so many edges begins at u
unfoldable pub goes_on : List (ℕ × ℕ) → ℕ → ℕ → Bool
goes_on edges zero u = true
goes_on edges (suc n) u = list_any (λ edge. u == edge.0 && goes_on edges n edge.1) edges

-- ---- workflows

-- the place of the workflow that an id names, the first of that id
abbrev pub workflow_place : Bundle → Identifier → Option ℕ
workflow_place b id = position (λ (w : Workflow). is_same w.id id) b.workflows

abbrev pub primary_place : Bundle → Option ℕ
primary_place b = workflow_place b b.primary

-- the workflows that the workflow nodes of a workflow run, those in branches too
abbrev pub run_places : Bundle → Workflow → List ℕ
run_places b w = filter_map (λ n. option_and_then (workflow_place b) (subworkflow_id n)) (nodes_of w)

-- the edges (i, j) between places of the bundle's workflows: a workflow node of the one at i runs the one at j
abbrev pub workflow_edges : Bundle → List (ℕ × ℕ)
workflow_edges b = flat_map (λ at. map (λ j. (at.0, j)) (run_places b at.1)) (enumerate_from 0 b.workflows)

-- the place of the primary workflow, or of one that it reaches
abbrev pub IsReachedPlace : Bundle → ℕ → Type 0
IsReachedPlace b place = (primary : ℕ) × (primary_place b ≡ Some primary) × ((primary ≡ place) ⊎ Reaches (workflow_edges b) primary place)

-- the primary workflow, or one that it reaches
pub record IsReached (b : Bundle) (w : Workflow) : Type 0 where
  pub place : ℕ
  pub there : slice_get b.workflows place ≡ Some w
  pub reached : IsReachedPlace b place

-- ---- as lists

abbrev pub is_reached_from : Bundle → ℕ → ℕ → Bool
is_reached_from b primary place = primary == place || reaches (workflow_edges b) primary place

-- the places of the workflows that the primary reaches, its own included, in the order of the bundle
abbrev pub reached_places : Bundle → List (ℕ × Workflow)
reached_places b =
    flat_map (λ primary. filter (λ (at : ℕ × Workflow). is_reached_from b primary at.0) (enumerate_from 0 b.workflows)) (option_to_list (primary_place b))

abbrev pub reached_workflows : Bundle → List Workflow
reached_workflows b = map (λ at. at.1) (reached_places b)

-- those of them that are not the primary
abbrev pub is_primary_place : Bundle → ℕ → Bool
is_primary_place b place = list_any (λ primary. primary == place) (option_to_list (primary_place b))

abbrev pub other_workflows : Bundle → List Workflow
other_workflows b = map (λ at. at.1) (filter (λ (at : ℕ × Workflow). not (is_primary_place b at.0)) (reached_places b))

-- ---- tasks

-- the task that a node runs, for an array that of its items
abbrev pub task_id_in : Target-F Target Case Node → Option Identifier
task_id_in (Target-F.Task id) = Some id
task_id_in (Target-F.Array id min_successes) = Some id
task_id_in _ = None

abbrev pub task_id_of : Node → Option Identifier
task_id_of n = task_id_in (out-Target n.target)

-- a node of a reached workflow runs the task
pub record IsReachedTask (b : Bundle) (t : Task) : Type 0 where
  pub workflow : Workflow
  pub reached : IsReached b workflow
  pub node : Node
  pub there : Contains (nodes_of workflow) node
  pub runs : option_and_then (task_named b) (task_id_of node) ≡ Some t

-- the place of the task that an id names, the first of that id
abbrev pub task_place : Bundle → Identifier → Option ℕ
task_place b id = position (λ (t : Task). is_same t.id id) b.tasks

abbrev pub run_task_places : Bundle → List ℕ
run_task_places b = flat_map (λ w. filter_map (λ n. option_and_then (task_place b) (task_id_of n)) (nodes_of w)) (reached_workflows b)

-- the tasks that nodes of reached workflows run, in the order of the bundle
abbrev pub reached_tasks : Bundle → List Task
reached_tasks b =
    map (λ at. at.1) (filter (λ (at : ℕ × Task). list_any (λ place. place == at.0) (run_task_places b)) (enumerate_from 0 b.tasks))
