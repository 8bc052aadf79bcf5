-- A generated bundle runs its one workflow, whose nodes all run its one task.
use Rattle.std.proofs.Common.{◌≡◌, ℕ, zero, suc, ◌<◌, List, [], ◌∷◌, ◌++◌, map, filter_map, Contains, Some, None, option_and_then, refl, sym, ◌∙◌, ap, subst, arith}
use Rattle.std.specs.List.{range_with_len, slice_get, cons_option}
use Rattle.std.proofs.lemmas.Option.{slice_get_within, same_Some}
use Rattle.fly_graph.specs.Walks.{IsEdge, IsWalk}
use Rattle.fly_graph.proofs.Members.{Contains-nil}
use Rattle.fly_docs.specs.declared.task.Task.{Task}
use Rattle.fly_docs.specs.declared.workflow.Workflow.{Workflow}
use Rattle.fly_docs.specs.declared.workflow.Bundle.{Bundle}
use Rattle.fly_docs.specs.Lookups.{task_named, primary_of}
use Rattle.fly_docs.specs.Plans.{nodes_of, subworkflow_id, workflow_id_in}
use Rattle.fly_docs.specs.Reaching.{workflow_place, run_places, workflow_edges, IsReached, IsReachedTask, task_id_in, task_id_of}
use Rattle.fly_generator.specs.Generated.{add_id, add_task, node_numbered, generated_workflow, generated}
use Rattle.fly_generator.proofs.Nodes.{runs_task, nodes_are, numbered}

pub no_workflow : (i : ℕ) → subworkflow_id (node_numbered i) ≡ None
no_workflow i = ap workflow_id_in (runs_task i)

no_place : (b : Bundle) (numbers : List ℕ)
    → filter_map (λ n. option_and_then (workflow_place b) (subworkflow_id n)) (map node_numbered numbers) ≡ []
no_place b [] = refl
no_place b (i ∷ numbers) =
    let behind = filter_map (λ n. option_and_then (workflow_place b) (subworkflow_id n)) (map node_numbered numbers) in
    ap (λ o. cons_option (option_and_then (workflow_place b) o) behind) (no_workflow i) ∙ no_place b numbers

module _ (count : ℕ) where
  abbrev b : Bundle
  b = generated count

  pub primary_is : primary_of b ≡ Some (generated_workflow count)
  primary_is = refl

  pub no_edges : workflow_edges b ≡ []
  no_edges =
      let none : run_places b (generated_workflow count) ≡ [] =
      ap (filter_map (λ n. option_and_then (workflow_place b) (subworkflow_id n))) (nodes_are count)
      ∙ no_place b (range_with_len 0 count) in
      ap (λ places. map (λ j. (0, j)) places ++ []) none

  no_edge : (u v : ℕ) → IsEdge (workflow_edges b) u v → ⊥
  no_edge u v edge = Contains-nil (u, v) (subst (λ edges. IsEdge edges u v) no_edges edge)

  pub no_walk : (u : ℕ) (between : List ℕ) (v : ℕ) → IsWalk (workflow_edges b) u between v → ⊥
  no_walk u [] v walk = no_edge u v walk
  no_walk u (w ∷ between) v walk = no_edge u w walk.0

  at_first : (place : ℕ) (w : Workflow) → place < 1 → slice_get b.workflows place ≡ Some w
      → w ≡ generated_workflow count
  at_first zero w within there = sym (same_Some _ _ there)
  at_first (suc place) w within there = absurd (omega arith)

  pub only_workflow : (w : Workflow) → IsReached b w → w ≡ generated_workflow count
  only_workflow w reached =
      at_first reached.place w (slice_get_within b.workflows reached.place w reached.there) reached.there

  pub task_found : task_named b add_id ≡ Some add_task
  task_found = refl

  runs_add : (i : ℕ) → option_and_then (task_named b) (task_id_of (node_numbered i)) ≡ Some add_task
  runs_add i = ap (λ t. option_and_then (task_named b) (task_id_in t)) (runs_task i) ∙ task_found

  pub only_task : (t : Task) → IsReachedTask b t → t ≡ add_task
  only_task t reached =
      let inside =
      subst (λ w. Contains (nodes_of w) reached.node) (only_workflow reached.workflow reached.reached) reached.there in
      let n = numbered count reached.node inside in
      same_Some _ _ (sym reached.runs ∙ ap (λ m. option_and_then (task_named b) (task_id_of m)) n.2 ∙ runs_add n.0)
