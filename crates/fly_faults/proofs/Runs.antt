-- The edges between the workflows of a bundle, by what their nodes run.
use Rattle.std.proofs.Common.{◌≡◌, ℕ, List, map, slice_get, Contains, Option, Some, option_and_then, inr, sym, ap, subst, ⊎_elim}
use Rattle.std.specs.List.{enumerate_from}
use Rattle.fly_graph.specs.Walks.{IsEdge, Reaches}
use Rattle.fly_graph.proofs.WalkLemmas.{reaches_by_edge, reaches_trans}
use Rattle.fly_docs.specs.declared.node.Node.{Node}
use Rattle.fly_docs.specs.declared.workflow.Workflow.{Workflow}
use Rattle.fly_docs.specs.declared.workflow.Bundle.{Bundle}
use Rattle.fly_docs.specs.Lookups.{is_same, workflow_named}
use Rattle.fly_docs.specs.Plans.{nodes_of, subworkflow_id, subworkflow_of}
use Rattle.fly_docs.specs.Reaching.{workflow_place, run_places, workflow_edges, IsReachedPlace, IsReached}
use Rattle.fly_faults.proofs.Lists.{and_then_of, and_then_some, find_position, in_filter_map, in_flat_map, in_map, number_at, numbered, of_filter_map, of_flat_map, of_map, position_find}

same_place : {X : Type 0} (xs : List X) (i j : ℕ) (x : X) → i ≡ j → slice_get xs i ≡ Some x → slice_get xs j ≡ Some x
same_place xs i j x same there = subst (λ k. slice_get xs k ≡ Some x) same there

module _ (b : Bundle) where
  -- a node of the workflow at u runs the workflow at v
  pub record IsRun (u v : ℕ) : Type 0 where
    pub workflow : Workflow
    pub from : slice_get b.workflows u ≡ Some workflow
    pub node : Node
    pub there : Contains (nodes_of workflow) node
    pub run : Workflow
    pub runs : subworkflow_of b node ≡ Some run
    pub to : slice_get b.workflows v ≡ Some run

  abbrev runs_from : ℕ × Workflow → List (ℕ × ℕ)
  runs_from at = map (λ j. (at.0, j)) (run_places b at.1)

  abbrev run_place : Node → Option ℕ
  run_place n = option_and_then (workflow_place b) (subworkflow_id n)

  pub run_of_edge : (u v : ℕ) → IsEdge (workflow_edges b) u v → IsRun u v
  run_of_edge u v edge =
      let from = of_flat_map runs_from (enumerate_from 0 b.workflows) (u, v) edge in
      let to = of_map (λ j. (from.0.0, j)) (run_places b from.0.1) (u, v) from.2 in
      let node = of_filter_map run_place (nodes_of from.0.1) to.0 to.1 in
      let id = and_then_some (workflow_place b) (subworkflow_id node.0) to.0 node.2 in
      let found = position_find (λ (w : Workflow). is_same w.id id.0) b.workflows to.0 id.2 in
      let start : from.0.0 ≡ u = ap (λ (p : ℕ × ℕ). p.0) to.2 in
      let end : to.0 ≡ v = ap (λ (p : ℕ × ℕ). p.1) to.2 in
      record {
        workflow = from.0.1;
        from = same_place b.workflows from.0.0 u from.0.1 start (number_at b.workflows from.0 from.1);
        node = node.0;
        there = node.1;
        run = found.0;
        runs = and_then_of (workflow_named b) (subworkflow_id node.0) id.0 found.0 id.1 found.2;
        to = same_place b.workflows to.0 v found.0 end found.1;
      }

  -- the edge to the workflow that a node runs
  pub edge_of_run : (u : ℕ) (w : Workflow) (n : Node) (x : Workflow) → slice_get b.workflows u ≡ Some w
      → Contains (nodes_of w) n → subworkflow_of b n ≡ Some x
      → (v : ℕ) × IsEdge (workflow_edges b) u v × (slice_get b.workflows v ≡ Some x)
  edge_of_run u w n x there has runs =
      let id = and_then_some (workflow_named b) (subworkflow_id n) x runs in
      let found = find_position (λ (y : Workflow). is_same y.id id.0) b.workflows x id.2 in
      let place = and_then_of (workflow_place b) (subworkflow_id n) id.0 found.0 id.1 found.1 in
      let run = in_filter_map run_place (nodes_of w) n found.0 has place in (
        found.0,
        in_flat_map runs_from (enumerate_from 0 b.workflows) (u, w) (u, found.0) (numbered b.workflows u w there)
            (in_map (λ j. (u, j)) (run_places b w) found.0 run),
        found.2,
      )

  reached_on : (u v : ℕ) → IsReachedPlace b u → IsEdge (workflow_edges b) u v → IsReachedPlace b v
  reached_on u v reached edge =
      let edges = workflow_edges b in
      let on : Reaches edges u v = reaches_by_edge edges u v edge in (
        reached.0,
        reached.1,
        inr (⊎_elim (λ same. subst (λ p. Reaches edges p v) (sym same) on)
            (λ walk. reaches_trans edges reached.0 u v walk on) reached.2),
      )

  -- what a reached workflow runs is reached
  pub reached_run : (w : Workflow) (n : Node) (x : Workflow) → IsReached b w → Contains (nodes_of w) n
      → subworkflow_of b n ≡ Some x → IsReached b x
  reached_run w n x reached has runs =
      let edge = edge_of_run reached.place w n x reached.there has runs in
      record { place = edge.0; there = edge.2; reached = reached_on reached.place edge.0 reached.reached edge.1 }
