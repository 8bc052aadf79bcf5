-- What a legal step makes of a node agrees with evaluation, where the state at which it is legal does.
use Rattle.std.proofs.Common.{◌≡◌, ℕ, Bool, true, false, not, ◌&&◌, List, [], Option, Some, None, option_map, option_and_then, refl, sym, ◌∙◌, ap, subst}
use Rattle.std.specs.List.{slice_get}
use Rattle.std.proofs.lemmas.Bool.{and_parts, false≢true}
use Rattle.std.proofs.lemmas.Option.{none-some}
use Rattle.fly_types.specs.declared.literals.LiteralMap.{LiteralMap}
use Rattle.fly_cast.proofs.Options.{map-some}
use Rattle.fly_docs.specs.declared.node.Node.{Node}
use Rattle.fly_docs.specs.declared.workflow.Workflow.{Workflow}
use Rattle.fly_docs.specs.Plans.{PlanNode}
use Rattle.fly_state.specs.declared.phase.Phase.TheVariants as phase
use Rattle.fly_state.specs.declared.slots.SlotState.{SlotState}
use Rattle.fly_state.specs.declared.effects.Effect.{Effect}
use Rattle.fly_state.specs.declared.moves.Step.{Step}
use Rattle.fly_state.specs.declared.moves.Step.TheVariants as step
use Rattle.fly_state.specs.declared.entries.Entry.{Entry}
use Rattle.fly_state.specs.declared.view.View.{View}
use Rattle.fly_state.specs.Inputs.{inputs_of_node, value_in, choice_of}
use Rattle.fly_state.specs.Moves.{of_slot, where_true, is_ready, settled_slot, retried_slot, inputs_when, begun_slot, queued_slot, chosen_slot, no_case_slot, input_failed_slot, skipped_slot, hit_slot, stored_slot, success_phase, closed_node_slot, aborted_slot, node_effect, is_going_on, may_step}
use Rattle.fly_state.specs.OfPlan.{IsOfPlan}
use Rattle.fly_state.specs.PlanTables.{IsOuterPlan, outer_node}
use Rattle.fly_state.specs.Plans.{RunPlan, is_task, is_workflow, is_branch, is_workflow_target, is_branch_target}
use Rattle.fly_state.specs.States.{own_state, is_running, is_broken}
use Rattle.fly_state.proofs.AskedInputs.{task-there}
use Rattle.fly_state.proofs.FinalLemmas.{where_true-test, where_true-there, option_and_then-there}
use Rattle.fly_eval.specs.declared.results.Results.{Results}
use Rattle.fly_eval.specs.declared.results.Hits.{Hits}
use Rattle.fly_agreement.specs.Agreement.{Agrees}
use Rattle.fly_agreement.specs.Laws.{HasNoCached, HasKnownResults}
use Rattle.fly_agreement.proofs.NodeSlots.{IsFit, fit-queued, fit-input_failed, fit-skipped, fit-aborted, fit-run, fit-retried, fit-stored, no-hit, fit-settled}

module _ (plan : RunPlan) (w : Workflow) (outer : IsOuterPlan plan w) (inputs : LiteralMap) (results : Results) (hits : Hits)
    (v : View) (of_plan : IsOfPlan plan v.state) (uncached : HasNoCached plan) (known : HasKnownResults plan v results)
    (agrees : Agrees plan inputs results hits v.state) (i : ℕ) (n : Node) (there : slice_get w.nodes i ≡ Some n) where
  abbrev p : PlanNode
  p = outer_node w (i, n)

  abbrev own : SlotState
  own = own_state v.state i

  abbrev Fit : SlotState → Type 0
  Fit = IsFit plan w outer inputs results hits v of_plan uncached known agrees i n there

  -- what is neither a workflow node nor a branch
  task-alone : (is_workflow n ≡ false) × (is_branch n ≡ false)
  task-alone = let its = task-there plan w outer i n there in (ap is_workflow_target its.2, ap is_branch_target its.2)

  made-slot : (o : Option SlotState) (e : Effect) → option_map of_slot o ≡ Some e → ((x : SlotState) → o ≡ Some x → Fit x)
      → Fit e.slot × (e.items ≡ None)
  made-slot o e h fit =
      let slot = map-some of_slot o e h in
      (subst (λ (x : Effect). Fit x.slot) (sym slot.2) (fit slot.0 slot.1), ap (λ (x : Effect). x.items) slot.2)

  no-inputs : (kind : Bool) (m : LiteralMap) → kind ≡ false → inputs_when kind plan v.state i p ≡ Some m → ⊥
  no-inputs kind m none e =
      false≢true (sym none ∙ (and_parts kind (is_ready plan v.state i)
      (where_true-test (kind && is_ready plan v.state i) (value_in (inputs_of_node plan v.state p None)) m e)).0)

  no-closing : (slot : SlotState) → closed_node_slot plan v.state i p ≡ Some slot → ⊥
  no-closing slot e =
      let its = task-there plan w outer i n there in
      let none : closed_node_slot plan v.state i p ≡ where_true (is_running own.phase) None = let at = its.2 in rw at refl in
      none-some slot (where_true-there (is_running own.phase) None slot (sym none ∙ e))

  -- the instance isn't broken
  going : is_going_on plan v.state [] && not (is_broken plan v.state []) ≡ true → is_broken plan v.state [] ≡ false
  going e = by (is_broken plan v.state []) (and_parts _ _ e).1
    where
      by : (c : Bool) → not c ≡ true → c ≡ false
      by true h = absurd (false≢true h)
      by false h = refl

  -- what a legal step makes of the node
  pub fit-step : (entries : List Entry) (st : Step) (e : Effect) → may_step plan v.state [] st ≡ true
      → node_effect plan v entries i p st ≡ Some e → Fit e.slot × (e.items ≡ None)
  fit-step entries step.Begin e may h =
      made-slot (begun_slot plan v.state i p) e h (λ x is.
      let there = map-some (λ m. record own { phase = phase.Running; inputs = Some m }) (inputs_when (is_workflow n) plan v.state i p) x is in
      absurd (no-inputs (is_workflow n) there.0 task-alone.0 there.1))
  fit-step entries step.Queue e may h =
      made-slot (queued_slot plan v.state i p) e h
      (fit-queued plan w outer inputs results hits v of_plan uncached known agrees i n there (going may))
  fit-step entries (step.Choose case) e may h =
      made-slot (chosen_slot plan v.state i p case) e h (λ x is.
      let choice = option_and_then-there _ (option_and_then (λ m. choice_of m n) (inputs_when (is_branch n) plan v.state i p)) x is in
      let there = option_and_then-there (λ m. choice_of m n) (inputs_when (is_branch n) plan v.state i p) choice.0 choice.1 in
      absurd (no-inputs (is_branch n) there.0 task-alone.1 there.1))
  fit-step entries step.NoCase e may h =
      made-slot (no_case_slot plan v.state i p) e h (λ x is.
      let there = option_and_then-there _ (inputs_when (is_branch n) plan v.state i p) x is in
      absurd (no-inputs (is_branch n) there.0 task-alone.1 there.1))
  fit-step entries step.InputFail e may h =
      made-slot (input_failed_slot plan v.state i p) e h
      (fit-input_failed plan w outer inputs results hits v of_plan uncached known agrees i n there (going may))
  fit-step entries step.Skip e may h =
      made-slot (skipped_slot plan v.state i) e h
      (fit-skipped plan w outer inputs results hits v of_plan uncached known agrees i n there (going may))
  fit-step entries (step.Run miss lease) e may h =
      fit-run plan w outer inputs results hits v of_plan uncached known agrees i n there entries miss lease e h
  fit-step entries (step.Hit place) e may h =
      made-slot (hit_slot plan v entries i p) e h (λ x is.
      absurd (no-hit plan w outer inputs results hits v of_plan uncached known agrees i n there entries x is))
  fit-step entries step.Retry e may h =
      made-slot (retried_slot own) e h
      (fit-retried plan w outer inputs results hits v of_plan uncached known agrees i n there)
  fit-step entries step.Settle e may h =
      let slot = settled_slot plan v p None (success_phase plan p) own in
      made-slot (where_true (is_task n) slot) e h (λ x is.
      fit-settled plan w outer inputs results hits v of_plan uncached known agrees i n there x (where_true-there (is_task n) slot x is))
  fit-step entries (step.Stored place) e may h =
      made-slot (stored_slot v entries i p) e h
      (fit-stored plan w outer inputs results hits v of_plan uncached known agrees i n there entries)
  fit-step entries step.Close e may h = made-slot (closed_node_slot plan v.state i p) e h (λ x is. absurd (no-closing x is))
  fit-step entries step.Abort e may h =
      made-slot (aborted_slot own) e h
      (fit-aborted plan w outer inputs results hits v of_plan uncached known agrees i n there)
