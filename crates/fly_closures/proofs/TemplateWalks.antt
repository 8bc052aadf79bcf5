-- Each walk between the workflows of a typed bundle's closure is one between the same workflows of the bundle.
use Rattle.std.proofs.Common.{◌≡◌, ℕ, suc, List, [], ◌∷◌, length, slice_get, Some, inl, inr, refl, sym, ap, ◌∙◌, subst, ⊎_elim}
use Rattle.std.proofs.lemmas.Option.{same_Some}
use Rattle.fly_graph.specs.Walks.{IsEdge, IsWalk}
use Rattle.fly_docs.specs.declared.task.Task.{Task}
use Rattle.fly_docs.specs.declared.workflow.Workflow.{Workflow}
use Rattle.fly_docs.specs.declared.workflow.Bundle.{Bundle}
use Rattle.fly_docs.specs.Lookups.{is_same, workflow_named}
use Rattle.fly_docs.specs.Plans.{subworkflow_id, subworkflow_of}
use Rattle.fly_docs.specs.Reaching.{primary_place, workflow_edges, IsReachedPlace, IsReached, IsReachedTask}
use Rattle.fly_docs.specs.Typed.{IsTyped}
use Rattle.fly_faults.proofs.Lists.{and_then_of, and_then_some, position_find}
use Rattle.fly_closures.proofs.Lists.{one_place, of_named, named_in}
use Rattle.fly_faults.proofs.Runs.{run_of_edge, edge_of_run}
use Rattle.fly_closures.proofs.Templates.{id_of_workflow, templates, primary_at, workflow_in_bundle, templates_primary, looks_alike}

module _ (b : Bundle) (typed : IsTyped b) where
  abbrev own : Bundle
  own = templates b typed

  abbrev start : ℕ
  start = (primary_at b typed).0

  -- the place among the templates and that in the bundle have one workflow
  pub record IsPlaceOf (place from : ℕ) : Type 0 where
    pub workflow : Workflow
    pub here : slice_get own.workflows place ≡ Some workflow
    pub there : slice_get b.workflows from ≡ Some workflow

  pub one_from : (place u v : ℕ) → IsPlaceOf place u → IsPlaceOf place v → u ≡ v
  one_from place u v p q =
      one_place id_of_workflow b.workflows typed.workflows u v p.workflow q.workflow p.there q.there
      (ap id_of_workflow (same_Some p.workflow q.workflow (sym p.here ∙ q.here)))

  edge_back : (u v from : ℕ) → IsEdge (workflow_edges own) u v → IsPlaceOf u from
      → (to : ℕ) × IsEdge (workflow_edges b) from to × IsPlaceOf v to
  edge_back u v from edge at =
      let run = run_of_edge own u v edge in
      let same : at.workflow ≡ run.workflow = same_Some at.workflow run.workflow (sym at.here ∙ run.from) in
      let id = and_then_some (workflow_named own) (subworkflow_id run.node) run.run run.runs in
      let found = of_named id_of_workflow own.workflows id.0 run.run id.2 in
      let named = named_in id_of_workflow b.workflows typed.workflows id.0 run.run
      (workflow_in_bundle b typed run.run found.0) found.1 in
      let runs : subworkflow_of b run.node ≡ Some run.run =
      and_then_of (workflow_named b) (subworkflow_id run.node) id.0 run.run id.1 named in
      let to = edge_of_run b from run.workflow run.node run.run (at.there ∙ ap Some same) run.there runs in
      (to.0, to.1, record { workflow = run.run; here = run.to; there = to.2 })

  pub walk_back : (u : ℕ) (between : List ℕ) (v from : ℕ) → IsWalk (workflow_edges own) u between v → IsPlaceOf u from
      → (others : List ℕ) × (to : ℕ) × IsWalk (workflow_edges b) from others to × IsPlaceOf v to
      × (length others ≡ length between)
  walk_back u [] v from edge at =
      let back = edge_back u v from edge at in
      ([], back.0, back.1, back.2, refl)
  walk_back u (x ∷ between) v from walk at =
      let first = edge_back u x from walk.0 at in
      let rest = walk_back x between v first.0 walk.1 first.2 in
      (first.0 ∷ rest.0, rest.1, (first.1, rest.2), rest.3, ap suc rest.4)

  pub primary_back : (place : ℕ) → primary_place own ≡ Some place → IsPlaceOf place start
  primary_back place e =
      let found = position_find (λ (w : Workflow). is_same w.id own.primary) own.workflows place e in
      let same : found.0 ≡ typed.primary =
      same_Some found.0 typed.primary (sym found.2 ∙ templates_primary b typed) in
      record { workflow = typed.primary; here = found.1 ∙ ap Some same; there = (primary_at b typed).2 }

  -- ---- what is reached

  pub reached_back : (place : ℕ) → IsReachedPlace own place → (from : ℕ) × IsPlaceOf place from × IsReachedPlace b from
  reached_back place reached =
      let at = primary_back reached.0 reached.1 in
      let is = (primary_at b typed).1 in
      ⊎_elim (λ same. (start, subst (λ p. IsPlaceOf p start) same at, (start, is, inl refl)))
      (λ walk. let back = walk_back reached.0 walk.0 place start walk.1 at in
      (back.1, back.3, (start, is, inr (back.0, back.2)))) reached.2

  pub workflow_back : (w : Workflow) → IsReached own w → IsReached b w
  workflow_back w reached =
      let back = reached_back reached.place reached.reached in
      let same : back.1.workflow ≡ w = same_Some back.1.workflow w (sym back.1.here ∙ reached.there) in
      record { place = back.0; there = back.1.there ∙ ap Some same; reached = back.2 }

  pub task_back : (t : Task) → IsReachedTask own t → IsReachedTask b t
  task_back t reached =
      let back = workflow_back reached.workflow reached.reached in
      let alike = looks_alike b typed reached.workflow back reached.node reached.there in
      record {
        workflow = reached.workflow;
        reached = back;
        node = reached.node;
        there = reached.there;
        runs = sym alike.task ∙ reached.runs;
      }
