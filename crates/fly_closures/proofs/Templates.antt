-- The templates in the closure of a typed bundle: each is one that the bundle reaches, and what the nodes of reached
-- workflows run is the same among them.
use Rattle.std.proofs.Common.{◌≡◌, ℕ, ◌==◌, true, false, not, Bool, List, [], ◌++◌, map, filter, flat_map, slice_get, Contains, Option, Some, None, option_and_then, option_to_list, inl, refl, sym, ap, ◌∙◌, subst, ⊎_elim}
use Rattle.std.specs.List.{list_any, enumerate_from}
use Rattle.std.proofs.lemmas.Bool.{eqb-true, eq-eqb, cases_Bool, false≢true}
use Rattle.std.proofs.lemmas.List.{append-nil}
use Rattle.std.proofs.lemmas.Simd.{map-map}
use Rattle.std.proofs.lemmas.Option.{same_Some}
use Rattle.fly_graph.proofs.Members.{Contains-cons_cases, Contains-filter, Contains-filter_from}
use Rattle.fly_docs.specs.declared.names.Identifier.{Identifier}
use Rattle.fly_docs.specs.declared.task.Task.{Task}
use Rattle.fly_docs.specs.declared.node.Node.{Node}
use Rattle.fly_docs.specs.declared.workflow.Workflow.{Workflow}
use Rattle.fly_docs.specs.declared.workflow.Bundle.{Bundle}
use Rattle.fly_docs.specs.Closures.{closure_with, bundle_of}
use Rattle.fly_docs.specs.Lookups.{is_same, task_named, workflow_named, primary_of}
use Rattle.fly_docs.specs.Plans.{nodes_of, subworkflow_id, plan_within, plan_of, max_nesting}
use Rattle.fly_docs.specs.Reaching.{primary_place, IsReached, is_reached_from, reached_places, is_primary_place, other_workflows, task_id_of, run_task_places}
use Rattle.fly_docs.specs.Typed.{AreDistinct, IsTyped}
use Rattle.fly_faults.proofs.Lists.{and_then_of, and_then_some, any_at, any_found, find_position, first_in, in_map, in_option, later_in, of_map, of_option}
use Rattle.fly_faults.proofs.RunFaultLemmas.{in_reached_places, of_reached_places, of_reached_tasks, in_reached_tasks, reached_in}
use Rattle.fly_closures.proofs.Lists.{unnumbered, distinct_cons, distinct_filter, one_place, of_named, named_in, named_alike}
use Rattle.fly_closures.proofs.Alike.{AreAlike, plans_alike}
use Rattle.fly_faults.proofs.Runs.{reached_run}

abbrev pub id_of_task : Task → Identifier
id_of_task t = t.id

abbrev pub id_of_workflow : Workflow → Identifier
id_of_workflow w = w.id

module _ (b : Bundle) (typed : IsTyped b) where
  abbrev primary : Workflow
  primary = typed.primary

  abbrev pub templates : Bundle
  templates = bundle_of (closure_with b primary)

  pub primary_at : (place : ℕ) × (primary_place b ≡ Some place) × (slice_get b.workflows place ≡ Some primary)
  primary_at = find_position (λ (w : Workflow). is_same w.id b.primary) b.workflows primary typed.named

  -- ---- what the closure has

  -- the places of the workflows that aren't the primary, and of the tasks that are run
  abbrev is_other : ℕ × Workflow → Bool
  is_other at = not (is_primary_place b at.0)

  abbrev is_task_run : ℕ × Task → Bool
  is_task_run at = list_any (λ place. place == at.0) (run_task_places b)

  primary_reached : IsReached b primary
  primary_reached =
      record { place = primary_at.0; there = primary_at.2; reached = (primary_at.0, primary_at.1, inl refl) }

  of_others : (w : Workflow) → Contains (other_workflows b) w → IsReached b w
  of_others w has =
      let from = of_map (λ (at : ℕ × Workflow). at.1) (filter is_other (reached_places b)) w has in
      let kept = Contains-filter is_other (reached_places b) from.0 from.1 in
      let there = of_reached_places b from.0 kept.0 in
      record { place = from.0.0; there = there.1 ∙ ap Some from.2; reached = there.0 }

  of_templates : (w : Workflow) → Contains templates.workflows w → IsReached b w
  of_templates w has =
      ⊎_elim (λ same. subst (IsReached b) same primary_reached) (λ more. of_others w more)
      (Contains-cons_cases primary (other_workflows b) w has)

  pub in_templates : (w : Workflow) → IsReached b w → Contains templates.workflows w
  in_templates w reached = ⊎_elim at_primary elsewhere (cases_Bool (is_primary_place b reached.place))
    where
      at_primary : is_primary_place b reached.place ≡ true → Contains templates.workflows w
      at_primary e =
          let found = any_found (λ p. p == reached.place) (option_to_list (primary_place b)) e in
          let place = of_option (primary_place b) found.0 found.1 in
          let same : primary_at.0 ≡ reached.place =
          same_Some primary_at.0 found.0 (sym primary_at.1 ∙ place) ∙ eqb-true found.0 reached.place found.2 in
          subst (Contains templates.workflows)
          (same_Some primary w (sym primary_at.2 ∙ ap (slice_get b.workflows) same ∙ reached.there))
          (first_in primary (other_workflows b))

      elsewhere : is_primary_place b reached.place ≡ false → Contains templates.workflows w
      elsewhere e =
          later_in primary (other_workflows b) w
          (in_map (λ (at : ℕ × Workflow). at.1) (filter is_other (reached_places b)) (reached.place, w)
          (Contains-filter_from is_other (reached_places b) (reached.place, w)
          (in_reached_places b reached.place w reached.reached reached.there) (ap not e)))

  pub workflow_in_bundle : (w : Workflow) → Contains templates.workflows w → Contains b.workflows w
  workflow_in_bundle w has = reached_in b w (of_templates w has)

  task_in_bundle : (t : Task) → Contains templates.tasks t → Contains b.tasks t
  task_in_bundle t has =
      let reached = of_reached_tasks b t has in
      let id = and_then_some (task_named b) (task_id_of reached.node) t reached.runs in
      (of_named id_of_task b.tasks id.0 t id.2).0

  -- ---- told apart

  pub task_ids : AreDistinct (map id_of_task templates.tasks)
  task_ids =
      let numbers = enumerate_from 0 b.tasks in
      let kept = distinct_filter (λ (at : ℕ × Task). at.1.id) is_task_run numbers
      (subst AreDistinct (sym (unnumbered id_of_task 0 b.tasks)) typed.tasks) in
      subst AreDistinct (sym (map-map id_of_task (λ (at : ℕ × Task). at.1) (filter is_task_run numbers))) kept

  abbrev places_from : ℕ → List (ℕ × Workflow)
  places_from place = filter (λ (at : ℕ × Workflow). is_reached_from b place at.0) (enumerate_from 0 b.workflows)

  from_primary : reached_places b ≡ places_from primary_at.0
  from_primary =
      ap (λ o. flat_map places_from (option_to_list o)) primary_at.1 ∙ append-nil (places_from primary_at.0)

  other_ids : AreDistinct (map id_of_workflow (other_workflows b))
  other_ids =
      let id_at : ℕ × Workflow → Identifier = λ at. at.1.id in
      let reached = distinct_filter id_at (λ at. is_reached_from b primary_at.0 at.0) (enumerate_from 0 b.workflows)
      (subst AreDistinct (sym (unnumbered id_of_workflow 0 b.workflows)) typed.workflows) in
      let others = distinct_filter id_at is_other (reached_places b)
      (subst (λ places. AreDistinct (map id_at places)) (sym from_primary) reached) in
      subst AreDistinct
      (sym (map-map id_of_workflow (λ (at : ℕ × Workflow). at.1) (filter is_other (reached_places b)))) others

  primary_apart : Contains (map id_of_workflow (other_workflows b)) primary.id → ⊥
  primary_apart has =
      let from = of_map id_of_workflow (other_workflows b) primary.id has in
      let at = of_map (λ (at : ℕ × Workflow). at.1) (filter is_other (reached_places b)) from.0 from.1 in
      let kept = Contains-filter is_other (reached_places b) at.0 at.1 in
      let there = (of_reached_places b at.0 kept.0).1 in
      let same : primary_at.0 ≡ at.0.0 =
      one_place id_of_workflow b.workflows typed.workflows primary_at.0 at.0.0 primary at.0.1 primary_at.2 there
      (sym (ap id_of_workflow at.2 ∙ from.2)) in
      let found : is_primary_place b at.0.0 ≡ true =
      any_at (λ p. p == at.0.0) (option_to_list (primary_place b)) primary_at.0
      (in_option (primary_place b) primary_at.0 primary_at.1) (eq-eqb primary_at.0 at.0.0 same) in
      false≢true (ap not (sym found) ∙ kept.1)

  pub workflow_ids : AreDistinct (map id_of_workflow templates.workflows)
  workflow_ids = distinct_cons primary.id (map id_of_workflow (other_workflows b)) primary_apart other_ids

  pub templates_primary : primary_of templates ≡ Some primary
  templates_primary =
      let first = first_in primary (other_workflows b) in
      named_in id_of_workflow templates.workflows workflow_ids primary.id primary first refl

  -- ---- what the nodes of reached workflows run

  module _ (w : Workflow) (reached : IsReached b w) (n : Node) (has : Contains (nodes_of w) n) where
    task_alike : (o : Option Identifier) → task_id_of n ≡ o
        → option_and_then (task_named templates) o ≡ option_and_then (task_named b) o
    task_alike None e = refl
    task_alike (Some id) e =
        named_alike id_of_task b.tasks templates.tasks typed.tasks task_ids task_in_bundle id (λ t found.
        let runs = and_then_of (task_named b) (task_id_of n) id t e found in
        in_reached_tasks b t (record { workflow = w; reached = reached; node = n; there = has; runs = runs }))

    workflow_alike : (o : Option Identifier) → subworkflow_id n ≡ o
        → option_and_then (workflow_named templates) o ≡ option_and_then (workflow_named b) o
    workflow_alike None e = refl
    workflow_alike (Some id) e =
        named_alike id_of_workflow b.workflows templates.workflows typed.workflows workflow_ids workflow_in_bundle id
        (λ x found. in_templates x
        (reached_run b w n x reached has (and_then_of (workflow_named b) (subworkflow_id n) id x e found)))

  pub looks_alike : (w : Workflow) → IsReached b w → AreAlike b templates (nodes_of w)
  looks_alike w reached n has = record {
    task = task_alike w reached n has (task_id_of n) refl;
    workflow = workflow_alike w reached n has (subworkflow_id n) refl;
  }

  -- the run is the same
  pub same_plan : plan_of templates ≡ plan_of b
  same_plan =
      ap (λ o. flat_map (plan_within max_nesting templates []) (option_to_list o)) templates_primary
      ∙ ap (λ plan. plan ++ [])
      (plans_alike b templates (IsReached b) looks_alike (reached_run b) max_nesting [] primary primary_reached)
      ∙ ap (λ o. flat_map (plan_within max_nesting b []) (option_to_list o)) (sym typed.named)
