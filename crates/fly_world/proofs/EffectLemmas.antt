-- What a move makes of a node: it is queued only where it was not yet started, and has new items only where it was
-- queued.
use Rattle.std.proofs.Common.{◌≡◌, ◌⊎◌, inl, inr, ℕ, ◌+◌, Bool, true, false, not, ◌&&◌, ◌||◌, cond, List, [], ◌∷◌, Option, Some, None, Ok, Err, replicate, option_map, option_and_then, is_none, codes, refl, sym, subst, ◌∙◌, eqb, leb}
use Rattle.std.specs.List.{list_all}
use Rattle.std.proofs.lemmas.Bool.{and_parts, true≢false}
use Rattle.std.proofs.lemmas.Option.{none-some, same_Some}
use Rattle.fly_types.specs.declared.literals.LiteralMap.{LiteralMap}
use Rattle.fly_docs.specs.declared.node.Node.{Node}
use Rattle.fly_docs.specs.declared.node.Case.{Case}
use Rattle.fly_docs.specs.declared.node.Target.{Target, out-Target}
use Rattle.fly_docs.specs.declared.node.Target.TheOpen.{Target-F}
use Rattle.fly_docs.specs.declared.task.Task.{Task}
use Rattle.fly_docs.specs.declared.workflow.Workflow.{Workflow}
use Rattle.fly_docs.specs.Plans.{PlanNode, is_array}
use Rattle.fly_docs.specs.SlotInputs as docs
use Rattle.fly_docs.specs.SlotInputs.{Taken, workflow_outputs}
use Rattle.fly_policy.specs.declared.outcome.Outcome.{Outcome}
use Rattle.fly_policy.specs.declared.retries.Next.{Next}
use Rattle.fly_policy.specs.declared.retries.Next.TheVariants as next
use Rattle.fly_policy.specs.Retries.{next_of}
use Rattle.fly_policy.specs.Items.{minimum, success_count}
use Rattle.fly_rules.specs.Standing.{is_ready_standing, is_skipped_standing}
use Rattle.fly_state.specs.declared.phase.Phase.{Phase}
use Rattle.fly_state.specs.declared.phase.Phase.TheVariants as phase
use Rattle.fly_state.specs.declared.slots.SlotState.{SlotState}
use Rattle.fly_state.specs.declared.slots.NodeState.{NodeState}
use Rattle.fly_state.specs.declared.slots.ExecState.{ExecState}
use Rattle.fly_state.specs.declared.moves.Step.{Step}
use Rattle.fly_state.specs.declared.moves.Step.TheVariants as step
use Rattle.fly_state.specs.declared.entries.Entry.{Entry}
use Rattle.fly_state.specs.declared.view.View.{View}
use Rattle.fly_state.specs.Plans.{RunPlan, Path, workflow_in, numbered_case, is_task, is_workflow, is_branch, task_of}
use Rattle.fly_state.specs.States.{node_state, own_state, phase_of, is_final, is_not_yet_started, is_running, instance_state, known_in}
use Rattle.fly_state.specs.Standing.{standing_of, is_at_rest, is_settled}
use Rattle.fly_state.specs.Inputs.{inputs_of_node, value_in, fault_code, count_of_items, choice_of}
use Rattle.fly_state.specs.declared.effects.Effect.{Effect}
use Rattle.fly_state.specs.Moves.{of_slot, where_true, is_queued, run_slot, new_item, no_places, may_run, is_cached, attempt_limit, outcome_in, slot_after, settled_slot, success_phase, retried_slot, failed_slot, is_ready, inputs_when, begun_slot, queued_slot, chosen_slot, no_case_slot, input_failed_slot, skipped_slot, run_task_effect, run_array_effect, run_effect, hit_content, hit_slot, is_succeeding, is_stored, stored_slot, item_ends, array_outputs, min_successes_of, succeeded_slot, task_run_by, closed_array_slot, branch_after, closed_branch_slot, has_failure, misses_output, slot_with_outputs, closed_instance_slot, closed_node_slot, aborted_slot, is_retryable, node_effect}

-- nothing has happened yet, or the node is queued
abbrev pub is_early : Phase → Bool
is_early phase.NotYetStarted = true
is_early phase.Queued = true
is_early _ = false

abbrev Late : SlotState → Type 0
Late x = is_early x.phase ≡ false

-- ---- what an optional value can be

module _ {Y : Type 0} (P : Y → Type 0) where
  pub in_some : (z : Y) → P z → (y : Y) → Some z ≡ Some y → P y
  in_some z holds y h = subst P (same_Some z y h) holds

  pub in_where : (b : Bool) (o : Option Y) → ((y : Y) → o ≡ Some y → P y) → (y : Y) → where_true b o ≡ Some y → P y
  in_where true o holds y h = holds y h
  in_where false o holds y h = absurd (none-some y h)

  pub in_map : {X : Type 0} (f : X → Y) → ((a : X) → P (f a)) → (o : Option X) (y : Y) → option_map f o ≡ Some y → P y
  in_map f holds None y h = absurd (none-some y h)
  in_map f holds (Some a) y h = subst P (same_Some (f a) y h) (holds a)

  pub in_then : {X : Type 0} (f : X → Option Y) → ((a : X) (y : Y) → f a ≡ Some y → P y) → (o : Option X) (y : Y)
      → option_and_then f o ≡ Some y → P y
  in_then f holds None y h = absurd (none-some y h)
  in_then f holds (Some a) y h = holds a y h

  pub in_cond : (b : Bool) (x y : Y) → P x → P y → P (cond b x y)
  in_cond true x y p q = p
  in_cond false x y p q = q

  pub in_either : (b : Bool) (o r : Option Y) → ((y : Y) → o ≡ Some y → P y) → ((y : Y) → r ≡ Some y → P y) → (y : Y)
      → cond b o r ≡ Some y → P y
  in_either true o r p q y h = p y h
  in_either false o r p q y h = q y h

pub passed : {X : Type 0} (b : Bool) (o : Option X) (y : X) → where_true b o ≡ Some y → b ≡ true
passed true o y h = refl
passed false o y h = absurd (none-some y h)

pub given : {X Y : Type 0} (f : X → Y) (o : Option X) (y : Y) → option_map f o ≡ Some y → (x : X) × (o ≡ Some x)
given f None y h = absurd (none-some y h)
given f (Some x) y h = (x, refl)

-- ---- before a node runs

module _ (plan : RunPlan) (s : ExecState) (i : ℕ) (p : PlanNode) where
  begun-late : (x : SlotState) → begun_slot plan s i p ≡ Some x → Late x
  begun-late x h =
      in_map Late (λ inputs. record (own_state s i) { phase = phase.Running; inputs = Some inputs }) (λ inputs. refl)
      (inputs_when (is_workflow p.node) plan s i p) x h

  -- a node that becomes queued was not yet started
  queued-fresh : (x : SlotState) → queued_slot plan s i p ≡ Some x → is_not_yet_started (phase_of s i) ≡ true
  queued-fresh x h =
      let kind = is_task p.node || is_array p.node in
      let inputs = given (λ inputs. record (own_state s i) { phase = phase.Queued; inputs = Some inputs })
      (inputs_when kind plan s i p) x h in
      let test = passed (kind && is_ready plan s i) (value_in (inputs_of_node plan s p None)) inputs.0 inputs.1 in
      (and_parts (is_not_yet_started (phase_of s i)) (is_ready_standing (standing_of plan s i))
      (and_parts kind (is_ready plan s i) test).1).0

  chosen-late : (case : ℕ) (x : SlotState) → chosen_slot plan s i p case ≡ Some x → Late x
  chosen-late case x h =
      let taken : SlotState = record (own_state s i) { phase = phase.Running; choice = Some case } in
      in_then Late (λ choice. where_true (eqb case choice) (Some taken))
      (λ choice. in_where Late (eqb case choice) (Some taken) (in_some Late taken refl))
      (option_and_then (λ inputs. choice_of inputs p.node) (inputs_when (is_branch p.node) plan s i p)) x h

  no_case-late : (x : SlotState) → no_case_slot plan s i p ≡ Some x → Late x
  no_case-late x h =
      let failed : SlotState = failed_slot (own_state s i) (codes "NoCase") in
      in_then Late (λ inputs. where_true (is_none (choice_of inputs p.node)) (Some failed))
      (λ inputs. in_where Late (is_none (choice_of inputs p.node)) (Some failed) (in_some Late failed refl))
      (inputs_when (is_branch p.node) plan s i p) x h

  input_failed-late : (x : SlotState) → input_failed_slot plan s i p ≡ Some x → Late x
  input_failed-late x h =
      let code = fault_code (inputs_of_node plan s p None) in
      in_where Late (not (is_branch p.node) && is_ready plan s i) (option_map (failed_slot (own_state s i)) code)
      (in_map Late (failed_slot (own_state s i)) (λ c. refl) code) x h

  skipped-late : (x : SlotState) → skipped_slot plan s i ≡ Some x → Late x
  skipped-late x h =
      let skipped : SlotState = record (own_state s i) { phase = phase.Skipped } in
      in_where Late (is_not_yet_started (phase_of s i) && is_skipped_standing (standing_of plan s i)) (Some skipped)
      (in_some Late skipped refl) x h

  -- ---- the end of a node

  array-late : (n : NodeState) (x : SlotState) → closed_array_slot plan n p ≡ Some x → Late x
  array-late n x h =
      let min = min_successes_of p in
      let enough = leb (minimum min (item_ends n.items)) (success_count (item_ends n.items)) in
      let end : Task → SlotState = λ t.
      cond enough (succeeded_slot n.own (array_outputs min t n.items))
      (failed_slot n.own (codes "TooFewSuccesses")) in
      in_where Late (list_all (λ (item : SlotState). is_final item.phase) n.items)
      (option_map end (task_run_by plan p))
      (in_map Late end (λ t. in_cond Late enough _ _ refl refl) (task_run_by plan p)) x h

  branch_end-late : (slot case : SlotState) (f : Phase) → case.phase ≡ f → Late (branch_after plan p slot case)
  branch_end-late slot case phase.Succeeded e = rw e refl
  branch_end-late slot case phase.Skipped e = rw e refl
  branch_end-late slot case phase.NotYetStarted e = rw e refl
  branch_end-late slot case phase.Queued e = rw e refl
  branch_end-late slot case phase.Running e = rw e refl
  branch_end-late slot case phase.RetryableFailure e = rw e refl
  branch_end-late slot case phase.Succeeding e = rw e refl
  branch_end-late slot case phase.Failed e = rw e refl
  branch_end-late slot case phase.TimedOut e = rw e refl
  branch_end-late slot case phase.Aborted e = rw e refl

  branch-late : (x : SlotState) → closed_branch_slot plan s i p ≡ Some x → Late x
  branch-late x h =
      let end : ℕ → SlotState = λ case. branch_after plan p (own_state s i) (own_state s case) in
      in_then Late (λ case. where_true (is_at_rest plan s case) (Some (end case)))
      (λ case. in_where Late (is_at_rest plan s case) (Some (end case))
      (in_some Late (end case) (branch_end-late (own_state s i) (own_state s case) (own_state s case).phase refl)))
      (option_and_then (numbered_case plan p) (own_state s i).choice) x h

outputs-late : (slot : SlotState) (t : Taken LiteralMap) (x : SlotState) → slot_with_outputs slot t ≡ Some x → Late x
outputs-late slot (Ok outputs) x h = in_some Late (succeeded_slot slot outputs) refl x h
outputs-late slot (Err (docs.enum_outside text)) x h = in_some Late (failed_slot slot (codes "EnumOutside")) refl x h
outputs-late slot (Err (docs.unequal_lengths first second)) x h = absurd (none-some x h)
outputs-late slot (Err (docs.too_many_items count)) x h = absurd (none-some x h)
outputs-late slot (Err docs.unknown) x h = absurd (none-some x h)

module _ (plan : RunPlan) (s : ExecState) (instance : Path) where
  closing-late : (w : Workflow) (x : SlotState)
      → cond (has_failure plan s instance) (Some (failed_slot (instance_state plan s instance) (codes "NodeFailed")))
      (cond (misses_output plan s instance w)
      (Some (failed_slot (instance_state plan s instance) (codes "OutputMissing")))
      (slot_with_outputs (instance_state plan s instance)
      (workflow_outputs plan.documents w (known_in plan s instance)))) ≡ Some x → Late x
  closing-late w x h =
      let slot = instance_state plan s instance in
      let failed : SlotState = failed_slot slot (codes "NodeFailed") in
      let missing : SlotState = failed_slot slot (codes "OutputMissing") in
      let outputs = workflow_outputs plan.documents w (known_in plan s instance) in
      in_either Late (has_failure plan s instance) (Some failed)
      (cond (misses_output plan s instance w) (Some missing) (slot_with_outputs slot outputs))
      (in_some Late failed refl)
      (in_either Late (misses_output plan s instance w) (Some missing) (slot_with_outputs slot outputs)
      (in_some Late missing refl)
      (outputs-late slot outputs)) x h

  instance-late : (x : SlotState) → closed_instance_slot plan s instance ≡ Some x → Late x
  instance-late x h =
      in_where Late (is_settled plan s instance) _ (in_then Late _ closing-late (workflow_in plan instance)) x h

module _ (plan : RunPlan) (s : ExecState) (i : ℕ) (p : PlanNode) where
  -- by what the node runs
  closed_kind : (t : Target-F Target Case Node) → out-Target p.node.target ≡ t → (x : SlotState)
      → closed_node_slot plan s i p ≡ Some x → Late x
  closed_kind (Target-F.Array task min) e x h =
      in_where Late (is_running (phase_of s i)) (closed_array_slot plan (node_state s i) p)
      (array-late plan s i p (node_state s i)) x (rw e at h)
  closed_kind (Target-F.Branch cases otherwise error) e x h =
      in_where Late (is_running (phase_of s i)) (closed_branch_slot plan s i p) (branch-late plan s i p) x (rw e at h)
  closed_kind (Target-F.Workflow id) e x h =
      in_where Late (is_running (phase_of s i)) (closed_instance_slot plan s p.path) (instance-late plan s p.path) x
      (rw e at h)
  closed_kind (Target-F.Task id) e x h =
      in_where Late (is_running (phase_of s i)) None (λ y none. absurd (none-some y none)) x (rw e at h)

  closed-late : (x : SlotState) → closed_node_slot plan s i p ≡ Some x → Late x
  closed-late x h = closed_kind (out-Target p.node.target) refl x h

-- ---- what runs

end-late : (done : Phase) (slot : SlotState) (o : Outcome) (n : Next) → is_early done ≡ false
    → Late (slot_after done slot o n)
end-late done slot o next.Done late = late
end-late done slot o next.Again late = refl
end-late done slot o next.Failed late = refl
end-late done slot o next.TimedOut late = refl

settled-late : (plan : RunPlan) (v : View) (p : PlanNode) (item : Option ℕ) (done : Phase) (slot x : SlotState)
    → is_early done ≡ false
    → settled_slot plan v p item done slot ≡ Some x → Late x
settled-late plan v p item done slot x late h =
    let end : Outcome → SlotState = λ o. slot_after done slot o (next_of o slot.attempt (attempt_limit plan p)) in
    in_where Late (is_running slot.phase) (option_map end (outcome_in v p item slot.attempt))
    (in_map Late end (λ o. end-late done slot o (next_of o slot.attempt (attempt_limit plan p)) late)
    (outcome_in v p item slot.attempt)) x h

retried-late : (slot x : SlotState) → retried_slot slot ≡ Some x → Late x
retried-late slot x h =
    let again : SlotState = record slot { phase = phase.Running; attempt = slot.attempt + 1 } in
    in_where Late (is_retryable slot.phase) (Some again) (in_some Late again refl) x h

aborted-late : (slot x : SlotState) → aborted_slot slot ≡ Some x → Late x
aborted-late slot x h =
    let aborted : SlotState = record slot { phase = phase.Aborted } in
    in_where Late (not (is_final slot.phase)) (Some aborted) (in_some Late aborted refl) x h

module _ (plan : RunPlan) (v : View) (i : ℕ) (p : PlanNode) where
  hit-late : (es : List Entry) (x : SlotState) → hit_slot plan v es i p ≡ Some x → Late x
  hit-late [] x h = absurd (none-some x h)
  hit-late (e ∷ []) x h =
      let hit : LiteralMap → SlotState = λ content. record
      (own_state v.state i) { phase = phase.Succeeded; outputs = Some content } in
      in_where Late (is_queued (phase_of v.state i) && is_cached plan p) (option_map hit (hit_content v p e))
      (in_map Late hit (λ content. refl) (hit_content v p e)) x h
  hit-late (e ∷ r ∷ es) x h = absurd (none-some x h)

  stored-late : (es : List Entry) (x : SlotState) → stored_slot v es i p ≡ Some x → Late x
  stored-late [] x h = absurd (none-some x h)
  stored-late (e ∷ []) x h =
      let stored : SlotState = record (own_state v.state i) { phase = phase.Succeeded } in
      in_where Late (is_succeeding (phase_of v.state i) && is_stored v p e) (Some stored)
      (in_some Late stored refl) x h
  stored-late (e ∷ r ∷ es) x h = absurd (none-some x h)

  abbrev RunsLate : Effect → Type 0
  RunsLate e = Late e.slot

  run-late : (es : List Entry) (miss lease : Option ℕ) (e : Effect) → run_effect plan v es i p miss lease ≡ Some e
      → RunsLate e
  run-late es miss lease e h =
      let items : LiteralMap → Effect = λ inputs. record {
        slot = record (own_state v.state i) { phase = phase.Running };
        items = Some (replicate (count_of_items plan p inputs) new_item);
      } in
      let runs : Effect = of_slot (run_slot (own_state v.state i)) in
      let inputs = value_in (inputs_of_node plan v.state p None) in
      in_where RunsLate (is_queued (phase_of v.state i))
      (cond (is_array p.node) (run_array_effect plan v es i p miss lease) (run_task_effect plan v es i p miss lease))
      (in_either RunsLate (is_array p.node) (run_array_effect plan v es i p miss lease)
      (run_task_effect plan v es i p miss lease)
      (in_where RunsLate (no_places miss lease es) (option_map items inputs)
      (in_map RunsLate items (λ m. refl) inputs))
      (in_then RunsLate (λ t. where_true (may_run v p t miss lease es) (Some runs))
      (λ t. in_where RunsLate (may_run v p t miss lease es) (Some runs) (in_some RunsLate runs refl))
      (task_of plan p))) e h

-- ---- all steps of a node

-- what a move makes of a node that was in this phase
pub record IsMade (f : Phase) (e : Effect) : Type 0 where
  pub items : (e.items ≡ None) ⊎ (is_queued f ≡ true)
  pub early : is_early e.slot.phase ≡ true → is_not_yet_started f ≡ true

module _ (f : Phase) where
  made_late : (o : Option SlotState) (e : Effect) → option_map of_slot o ≡ Some e
      → ((x : SlotState) → o ≡ Some x → Late x) → IsMade f e
  made_late o e h late =
      in_where_slot o e h (λ x there. record {
        items = inl refl;
        early = λ early. absurd
            (true≢false (sym early ∙ late x there));
      })
    where
      in_where_slot : (o : Option SlotState) (e : Effect) → option_map of_slot o ≡ Some e
          → ((x : SlotState) → o ≡ Some x → IsMade f (of_slot x)) → IsMade f e
      in_where_slot None e h made = absurd (none-some e h)
      in_where_slot (Some x) e h made = subst (IsMade f) (same_Some (of_slot x) e h) (made x refl)

done-late : (b : Bool) → is_early (cond b phase.Succeeding phase.Succeeded) ≡ false
done-late true = refl
done-late false = refl

pub node-made : (plan : RunPlan) (v : View) (es : List Entry) (i : ℕ) (p : PlanNode) (st : Step) (e : Effect)
    → node_effect plan v es i p st ≡ Some e → IsMade (phase_of v.state i) e
node-made plan v es i p step.Begin e h = made_late (phase_of v.state i) (begun_slot plan v.state i p) e h
    (begun-late plan v.state i p)
node-made plan v es i p step.Queue e h = queued-made (queued_slot plan v.state i p) e h
    (queued-fresh plan v.state i p)
  where
    queued-made : (o : Option SlotState) (e : Effect) → option_map of_slot o ≡ Some e
        → ((x : SlotState) → o ≡ Some x → is_not_yet_started (phase_of v.state i) ≡ true)
        → IsMade (phase_of v.state i) e
    queued-made None e h fresh = absurd (none-some e h)
    queued-made (Some x) e h fresh =
        subst (IsMade (phase_of v.state i)) (same_Some (of_slot x) e h)
        (record { items = inl refl; early = λ early. fresh x refl })
node-made plan v es i p (step.Choose case) e h =
    made_late (phase_of v.state i) (chosen_slot plan v.state i p case) e h (chosen-late plan v.state i p case)
node-made plan v es i p step.NoCase e h = made_late (phase_of v.state i) (no_case_slot plan v.state i p) e h
    (no_case-late plan v.state i p)
node-made plan v es i p step.InputFail e h =
    made_late (phase_of v.state i) (input_failed_slot plan v.state i p) e h (input_failed-late plan v.state i p)
node-made plan v es i p step.Skip e h = made_late (phase_of v.state i) (skipped_slot plan v.state i) e h
    (skipped-late plan v.state i p)
node-made plan v es i p (step.Run miss lease) e h = record {
  items = inr (passed (is_queued (phase_of v.state i))
      (cond (is_array p.node) (run_array_effect plan v es i p miss lease)
      (run_task_effect plan v es i p miss lease)) e h);
  early = λ early. absurd (true≢false (sym early ∙ run-late plan v i p es miss lease e h));
}
node-made plan v es i p (step.Hit place) e h = made_late (phase_of v.state i) (hit_slot plan v es i p) e h
    (hit-late plan v i p es)
node-made plan v es i p step.Retry e h =
    made_late (phase_of v.state i) (retried_slot (own_state v.state i)) e h (retried-late (own_state v.state i))
node-made plan v es i p step.Settle e h =
    let slot = settled_slot plan v p None (success_phase plan p) (own_state v.state i) in
    made_late (phase_of v.state i) (where_true (is_task p.node) slot) e h
    (in_where Late (is_task p.node) slot
    (λ x there. settled-late plan v p None (success_phase plan p) (own_state v.state i) x
    (done-late (is_cached plan p)) there))
node-made plan v es i p (step.Stored place) e h = made_late (phase_of v.state i) (stored_slot v es i p) e h
    (stored-late plan v i p es)
node-made plan v es i p step.Close e h = made_late (phase_of v.state i) (closed_node_slot plan v.state i p) e h
    (closed-late plan v.state i p)
node-made plan v es i p step.Abort e h =
    made_late (phase_of v.state i) (aborted_slot (own_state v.state i)) e h (aborted-late (own_state v.state i))
