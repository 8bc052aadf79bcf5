-- A legal move is on a slot that is not final: each step has a test of the phase.
use Rattle.std.proofs.Common.{◌≡◌, ℕ, Bool, true, false, not, ◌&&◌, ◌||◌, if◌then◌else◌, List, [], ◌∷◌, Option, Some, None, option_map, option_and_then, unwrap_or, refl, sym, ◌∙◌, subst, is_none, codes, ◌==◌, ◌+◌}
use Rattle.std.specs.List.{slice_get}
use Rattle.std.proofs.lemmas.Bool.{and_parts, false≢true}
use Rattle.std.proofs.lemmas.Option.{none-some, same_Some}
use Rattle.fly_types.specs.declared.literals.LiteralMap.{LiteralMap}
use Rattle.fly_policy.specs.Retries.{next_of}
use Rattle.fly_docs.specs.Plans.{PlanNode, is_array}
use Rattle.fly_state.specs.declared.phase.Phase.{Phase}
use Rattle.fly_state.specs.declared.phase.Phase.TheVariants as phase
use Rattle.fly_state.specs.declared.slots.SlotState.{SlotState}
use Rattle.fly_state.specs.declared.slots.NodeState.{NodeState}
use Rattle.fly_state.specs.declared.slots.ExecState.{ExecState}
use Rattle.fly_state.specs.declared.moves.Move.{Move}
use Rattle.fly_state.specs.declared.moves.Step.{Step}
use Rattle.fly_state.specs.declared.moves.Step.TheVariants as step
use Rattle.fly_state.specs.declared.entries.Entry.{Entry}
use Rattle.fly_state.specs.declared.view.View.{View}
use Rattle.fly_state.specs.Plans.{RunPlan, node_numbered, instance_of, is_task, is_workflow, is_branch}
use Rattle.fly_state.specs.States.{fresh_node, node_state, own_state, phase_of, is_final, is_not_yet_started, is_running}
use Rattle.fly_state.specs.Inputs.{inputs_of_node, value_in, fault_code, choice_of}
use Rattle.fly_rules.specs.Standing.{is_ready_standing, is_skipped_standing}
use Rattle.fly_state.specs.Standing.{standing_of}
use Rattle.fly_state.specs.Moves.{Effect, of_slot, where_true, is_queued, is_succeeding, is_retryable, is_ready, is_cached, is_stored, hit_content, inputs_when, begun_slot, queued_slot, chosen_slot, no_case_slot, input_failed_slot, skipped_slot, failed_slot, hit_slot, stored_slot, retried_slot, settled_slot, slot_after, attempt_limit, outcome_in, aborted_slot, success_phase, run_array_effect, run_task_effect, closed_node_slot, closed_instance_slot, node_effect, item_effect, root_effect, effect_of, may_step}
use Rattle.fly_state.specs.Laws.{slot_at}

-- ---- what is there

pub where_true-test : {X : Type 0} (b : Bool) (o : Option X) (y : X) → where_true b o ≡ Some y → b ≡ true
where_true-test true o y e = refl
where_true-test false o y e = absurd (none-some y e)

pub where_true-there : {X : Type 0} (b : Bool) (o : Option X) (y : X) → where_true b o ≡ Some y → o ≡ Some y
where_true-there true o y e = e
where_true-there false o y e = absurd (none-some y e)

pub option_map-there : {X Y : Type 0} (f : X → Y) (o : Option X) (y : Y) → option_map f o ≡ Some y → (x : X) × (o ≡ Some x)
option_map-there f None y e = absurd (none-some y e)
option_map-there f (Some x) y e = (x, refl)

pub option_and_then-there : {X Y : Type 0} (f : X → Option Y) (o : Option X) (y : Y) → option_and_then f o ≡ Some y
    → (x : X) × (o ≡ Some x) × (f x ≡ Some y)
option_and_then-there f None y e = absurd (none-some y e)
option_and_then-there f (Some x) y e = (x, refl, e)

-- ---- tests of phases

second_false : (a b : Bool) → a ≡ true → a && b ≡ false → b ≡ false
second_false true b e h = h
second_false false b e h = absurd (false≢true e)

not_yet_started-apart : (f : Phase) → is_not_yet_started f && is_final f ≡ false
not_yet_started-apart phase.NotYetStarted = refl
not_yet_started-apart _ = refl

queued-apart : (f : Phase) → is_queued f && is_final f ≡ false
queued-apart phase.Queued = refl
queued-apart _ = refl

running-apart : (f : Phase) → is_running f && is_final f ≡ false
running-apart phase.Running = refl
running-apart _ = refl

retryable-apart : (f : Phase) → is_retryable f && is_final f ≡ false
retryable-apart phase.RetryableFailure = refl
retryable-apart _ = refl

succeeding-apart : (f : Phase) → is_succeeding f && is_final f ≡ false
succeeding-apart phase.Succeeding = refl
succeeding-apart _ = refl

not-true : (b : Bool) → not b ≡ true → b ≡ false
not-true true e = absurd (false≢true e)
not-true false e = refl

-- ---- nodes

module _ (plan : RunPlan) (s : ExecState) (i : ℕ) where
  -- a node that is not yet started is not final
  fresh-not_final : (rest : Bool) → is_not_yet_started (phase_of s i) && rest ≡ true → is_final (phase_of s i) ≡ false
  fresh-not_final rest e = second_false _ _ (and_parts _ _ e).0 (not_yet_started-apart (phase_of s i))

  inputs_when-not_final : (kind : Bool) (p : PlanNode) (m : LiteralMap) → inputs_when kind plan s i p ≡ Some m → is_final (phase_of s i) ≡ false
  inputs_when-not_final kind p m h =
      let test = where_true-test (kind && is_ready plan s i) (value_in (inputs_of_node plan s p None)) m h in
      fresh-not_final (is_ready_standing (standing_of plan s i)) (and_parts _ _ test).1

  begun-not_final : (p : PlanNode) (x : SlotState) → begun_slot plan s i p ≡ Some x → is_final (phase_of s i) ≡ false
  begun-not_final p x h =
      let there = option_map-there (λ inputs. record (own_state s i) { phase = phase.Running; inputs = Some inputs })
      (inputs_when (is_workflow p.node) plan s i p) x h in
      inputs_when-not_final (is_workflow p.node) p there.0 there.1

  queued-not_final : (p : PlanNode) (x : SlotState) → queued_slot plan s i p ≡ Some x → is_final (phase_of s i) ≡ false
  queued-not_final p x h =
      let there = option_map-there (λ inputs. record (own_state s i) { phase = phase.Queued; inputs = Some inputs })
      (inputs_when (is_task p.node || is_array p.node) plan s i p) x h in
      inputs_when-not_final (is_task p.node || is_array p.node) p there.0 there.1

  chosen-not_final : (p : PlanNode) (case : ℕ) (x : SlotState) → chosen_slot plan s i p case ≡ Some x → is_final (phase_of s i) ≡ false
  chosen-not_final p case x h =
      let chosen = option_and_then-there
      (λ choice. where_true (case == choice) (Some (record (own_state s i) { phase = phase.Running; choice = Some case })))
      (option_and_then (λ inputs. choice_of inputs p.node) (inputs_when (is_branch p.node) plan s i p)) x h in
      let there = option_and_then-there (λ inputs. choice_of inputs p.node) (inputs_when (is_branch p.node) plan s i p) chosen.0 chosen.1 in
      inputs_when-not_final (is_branch p.node) p there.0 there.1

  no_case-not_final : (p : PlanNode) (x : SlotState) → no_case_slot plan s i p ≡ Some x → is_final (phase_of s i) ≡ false
  no_case-not_final p x h =
      let there = option_and_then-there
      (λ inputs. where_true (is_none (choice_of inputs p.node)) (Some (failed_slot (own_state s i) (codes "NoCase"))))
      (inputs_when (is_branch p.node) plan s i p) x h in
      inputs_when-not_final (is_branch p.node) p there.0 there.1

  input_failed-not_final : (p : PlanNode) (x : SlotState) → input_failed_slot plan s i p ≡ Some x → is_final (phase_of s i) ≡ false
  input_failed-not_final p x h =
      let test = where_true-test (not (is_branch p.node) && is_ready plan s i)
      (option_map (failed_slot (own_state s i)) (fault_code (inputs_of_node plan s p None))) x h in
      fresh-not_final (is_ready_standing (standing_of plan s i)) (and_parts _ _ test).1

  skipped-not_final : (x : SlotState) → skipped_slot plan s i ≡ Some x → is_final (phase_of s i) ≡ false
  skipped-not_final x h =
      fresh-not_final (is_skipped_standing (standing_of plan s i))
      (where_true-test (is_not_yet_started (phase_of s i) && is_skipped_standing (standing_of plan s i))
      (Some (record (own_state s i) { phase = phase.Skipped })) x h)

module _ (plan : RunPlan) (v : View) (i : ℕ) where
  hit-not_final : (p : PlanNode) (entries : List Entry) (x : SlotState) → hit_slot plan v entries i p ≡ Some x
      → is_final (phase_of v.state i) ≡ false
  hit-not_final p [] x h = absurd (none-some x h)
  hit-not_final p (e ∷ []) x h =
      let test = where_true-test (is_queued (phase_of v.state i) && is_cached plan p)
      (option_map (λ content. record (own_state v.state i) { phase = phase.Succeeded; outputs = Some content }) (hit_content v p e)) x h in
      second_false _ _ (and_parts _ _ test).0 (queued-apart (phase_of v.state i))
  hit-not_final p (e ∷ r ∷ entries) x h = absurd (none-some x h)

  stored-not_final : (p : PlanNode) (entries : List Entry) (x : SlotState) → stored_slot v entries i p ≡ Some x
      → is_final (phase_of v.state i) ≡ false
  stored-not_final p [] x h = absurd (none-some x h)
  stored-not_final p (e ∷ []) x h =
      let test = where_true-test (is_succeeding (phase_of v.state i) && is_stored v p e)
      (Some (record (own_state v.state i) { phase = phase.Succeeded })) x h in
      second_false _ _ (and_parts _ _ test).0 (succeeding-apart (phase_of v.state i))
  stored-not_final p (e ∷ r ∷ entries) x h = absurd (none-some x h)

retried-not_final : (slot x : SlotState) → retried_slot slot ≡ Some x → is_final slot.phase ≡ false
retried-not_final slot x h =
    second_false _ _ (where_true-test (is_retryable slot.phase) (Some (record slot { phase = phase.Running; attempt = slot.attempt + 1 })) x h)
    (retryable-apart slot.phase)

settled-not_final : (plan : RunPlan) (v : View) (p : PlanNode) (item : Option ℕ) (done : Phase) (slot x : SlotState)
    → settled_slot plan v p item done slot ≡ Some x → is_final slot.phase ≡ false
settled-not_final plan v p item done slot x h =
    second_false _ _ (where_true-test (is_running slot.phase)
    (option_map (λ o. slot_after done slot o (next_of o slot.attempt (attempt_limit plan p))) (outcome_in v p item slot.attempt)) x h)
    (running-apart slot.phase)

aborted-not_final : (slot x : SlotState) → aborted_slot slot ≡ Some x → is_final slot.phase ≡ false
aborted-not_final slot x h =
    not-true (is_final slot.phase) (where_true-test (not (is_final slot.phase)) (Some (record slot { phase = phase.Aborted })) x h)

-- the slot that a step makes
pub effect-slot : (o : Option SlotState) (e : Effect) → option_map of_slot o ≡ Some e → (x : SlotState) × (o ≡ Some x)
effect-slot o e h = option_map-there of_slot o e h

pub node_effect-not_final : (plan : RunPlan) (v : View) (entries : List Entry) (i : ℕ) (p : PlanNode) (st : Step) (e : Effect)
    → node_effect plan v entries i p st ≡ Some e → is_final (phase_of v.state i) ≡ false
node_effect-not_final plan v entries i p step.Begin e h =
    let x = effect-slot (begun_slot plan v.state i p) e h in begun-not_final plan v.state i p x.0 x.1
node_effect-not_final plan v entries i p step.Queue e h =
    let x = effect-slot (queued_slot plan v.state i p) e h in queued-not_final plan v.state i p x.0 x.1
node_effect-not_final plan v entries i p (step.Choose case) e h =
    let x = effect-slot (chosen_slot plan v.state i p case) e h in chosen-not_final plan v.state i p case x.0 x.1
node_effect-not_final plan v entries i p step.NoCase e h =
    let x = effect-slot (no_case_slot plan v.state i p) e h in no_case-not_final plan v.state i p x.0 x.1
node_effect-not_final plan v entries i p step.InputFail e h =
    let x = effect-slot (input_failed_slot plan v.state i p) e h in input_failed-not_final plan v.state i p x.0 x.1
node_effect-not_final plan v entries i p step.Skip e h =
    let x = effect-slot (skipped_slot plan v.state i) e h in skipped-not_final plan v.state i x.0 x.1
node_effect-not_final plan v entries i p (step.Run miss lease) e h =
    second_false _ _ (where_true-test (is_queued (phase_of v.state i))
    (if is_array p.node then run_array_effect plan v entries i p miss lease else run_task_effect plan v entries i p miss lease) e h)
    (queued-apart (phase_of v.state i))
node_effect-not_final plan v entries i p (step.Hit place) e h =
    let x = effect-slot (hit_slot plan v entries i p) e h in hit-not_final plan v i p entries x.0 x.1
node_effect-not_final plan v entries i p step.Retry e h =
    let x = effect-slot (retried_slot (own_state v.state i)) e h in retried-not_final (own_state v.state i) x.0 x.1
node_effect-not_final plan v entries i p step.Settle e h =
    let slot = settled_slot plan v p None (success_phase plan p) (own_state v.state i) in
    let x = effect-slot (where_true (is_task p.node) slot) e h in
    settled-not_final plan v p None (success_phase plan p) (own_state v.state i) x.0 (where_true-there (is_task p.node) slot x.0 x.1)
node_effect-not_final plan v entries i p (step.Stored place) e h =
    let x = effect-slot (stored_slot v entries i p) e h in stored-not_final plan v i p entries x.0 x.1
node_effect-not_final plan v entries i p step.Close e h =
    let x = effect-slot (closed_node_slot plan v.state i p) e h in
    second_false _ _ (where_true-test (is_running (phase_of v.state i)) _ x.0 x.1) (running-apart (phase_of v.state i))
node_effect-not_final plan v entries i p step.Abort e h =
    let x = effect-slot (aborted_slot (own_state v.state i)) e h in aborted-not_final (own_state v.state i) x.0 x.1

item_effect-not_final : (plan : RunPlan) (v : View) (p : PlanNode) (item : ℕ) (slot : SlotState) (st : Step) (e : Effect)
    → item_effect plan v p item slot st ≡ Some e → is_final slot.phase ≡ false
item_effect-not_final plan v p item slot step.Retry e h =
    let x = effect-slot (retried_slot slot) e h in retried-not_final slot x.0 x.1
item_effect-not_final plan v p item slot step.Settle e h =
    let x = effect-slot (settled_slot plan v p (Some item) phase.Succeeded slot) e h in
    settled-not_final plan v p (Some item) phase.Succeeded slot x.0 x.1
item_effect-not_final plan v p item slot step.Abort e h =
    let x = effect-slot (aborted_slot slot) e h in aborted-not_final slot x.0 x.1
item_effect-not_final plan v p item slot _ e h = absurd (none-some e h)

root_effect-not_final : (plan : RunPlan) (s : ExecState) (st : Step) (e : Effect) → root_effect plan s st ≡ Some e
    → is_final s.root.phase ≡ false
root_effect-not_final plan s step.Close e h =
    second_false _ _ (where_true-test (is_running s.root.phase) (option_map of_slot (closed_instance_slot plan s [])) e h) (running-apart s.root.phase)
root_effect-not_final plan s _ e h = absurd (none-some e h)

-- ---- all slots

own-there : (o : Option NodeState) (slot : SlotState) → option_map (λ (n : NodeState). n.own) o ≡ Some slot → (unwrap_or o fresh_node).own ≡ slot
own-there None slot h = absurd (none-some slot h)
own-there (Some n) slot h = same_Some _ _ h

item-there : (o : Option NodeState) (item : ℕ) (slot : SlotState) → option_and_then (λ (n : NodeState). slice_get n.items item) o ≡ Some slot
    → slice_get (unwrap_or o fresh_node).items item ≡ Some slot
item-there None item slot h = absurd (none-some slot h)
item-there (Some n) item slot h = h

effect-not_final : (plan : RunPlan) (v : View) (entries : List Entry) (node item : Option ℕ) (st : Step) (e : Effect) (slot : SlotState)
    → effect_of plan v entries (record { at = record { node = node; item = item }; step = st }) ≡ Some e
    → slot_at v.state (record { node = node; item = item }) ≡ Some slot → is_final slot.phase ≡ false
effect-not_final plan v entries None None st e slot h there =
    subst (λ (x : SlotState). is_final x.phase ≡ false) (same_Some _ _ there) (root_effect-not_final plan v.state st e h)
effect-not_final plan v entries None (Some item) st e slot h there = absurd (none-some e h)
effect-not_final plan v entries (Some i) None st e slot h there =
    let p = option_and_then-there (λ p. where_true (may_step plan v.state (instance_of p) st) (node_effect plan v entries i p st))
    (node_numbered plan i) e h in
    let made = where_true-there (may_step plan v.state (instance_of p.0) st) (node_effect plan v entries i p.0 st) e p.2 in
    subst (λ (x : SlotState). is_final x.phase ≡ false) (own-there (slice_get v.state.nodes i) slot there)
    (node_effect-not_final plan v entries i p.0 st e made)
effect-not_final plan v entries (Some i) (Some item) st e slot h there =
    let items = (node_state v.state i).items in
    let at_item : PlanNode → Option Effect = λ p. option_and_then (λ x. item_effect plan v p item x st) (slice_get items item) in
    let p = option_and_then-there (λ p. where_true (may_step plan v.state (instance_of p) st) (at_item p)) (node_numbered plan i) e h in
    let made = where_true-there (may_step plan v.state (instance_of p.0) st) (at_item p.0) e p.2 in
    let x = option_and_then-there (λ x. item_effect plan v p.0 item x st) (slice_get items item) e made in
    subst (λ (x : SlotState). is_final x.phase ≡ false)
    (same_Some _ _ (sym x.1 ∙ item-there (slice_get v.state.nodes i) item slot there))
    (item_effect-not_final plan v p.0 item x.0 st e x.2)

-- a legal move is on a slot that is not final
pub effect_of-not_final : (plan : RunPlan) (v : View) (entries : List Entry) (m : Move) (e : Effect) (slot : SlotState)
    → effect_of plan v entries m ≡ Some e → slot_at v.state m.at ≡ Some slot → is_final slot.phase ≡ false
effect_of-not_final plan v entries m e slot h there = effect-not_final plan v entries m.at.node m.at.item m.step e slot h there
