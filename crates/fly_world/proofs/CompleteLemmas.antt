-- A slot that succeeded, or whose outputs are being stored, has outputs: each move keeps this.
use Rattle.std.proofs.Common.{◌≡◌, ◌⊎◌, inl, inr, ℕ, ◌+◌, Bool, true, false, not, ◌&&◌, ◌||◌, cond, List, [], ◌∷◌, All, Option, Some, None, replicate, option_map, option_and_then, is_none, is_some, unwrap_or, Ok, Err, IfSome, codes, refl, subst, eqb, leb, ltb}
use Rattle.std.specs.List.{list_all, slice_get}
use Rattle.std.proofs.lemmas.Bool.{and_parts, false≢true}
use Rattle.std.proofs.lemmas.List.Elements.{All-nil, All-replicate}
use Rattle.std.proofs.lemmas.Option.{none-some, same_Some}
use Rattle.fly_types.specs.declared.literals.LiteralMap.{LiteralMap}
use Rattle.fly_docs.specs.declared.node.Node.{Node}
use Rattle.fly_docs.specs.declared.node.Case.{Case}
use Rattle.fly_docs.specs.declared.node.Target.{Target, out-Target}
use Rattle.fly_docs.specs.declared.node.Target.TheOpen.{Target-F}
use Rattle.fly_docs.specs.declared.task.Task.{Task}
use Rattle.fly_docs.specs.declared.workflow.Workflow.{Workflow}
use Rattle.fly_docs.specs.Plans.{PlanNode, is_array}
use Rattle.fly_docs.specs.SlotInputs as docs
use Rattle.fly_docs.specs.SlotInputs.{Taken, workflow_outputs}
use Rattle.fly_policy.specs.declared.outcome.Outcome.{Outcome}
use Rattle.fly_policy.specs.declared.outcome.Outcome.TheVariants as outcome
use Rattle.fly_policy.specs.declared.retries.Next.TheVariants as next
use Rattle.fly_policy.specs.Retries.{next_of}
use Rattle.fly_policy.specs.Items.{minimum, success_count}
use Rattle.fly_rules.specs.Standing.{is_skipped_standing}
use Rattle.fly_state.specs.declared.phase.Phase.{Phase}
use Rattle.fly_state.specs.declared.phase.Phase.TheVariants as phase
use Rattle.fly_state.specs.declared.slots.SlotState.{SlotState}
use Rattle.fly_state.specs.declared.slots.NodeState.{NodeState}
use Rattle.fly_state.specs.declared.slots.ExecState.{ExecState}
use Rattle.fly_state.specs.declared.moves.Step.{Step}
use Rattle.fly_state.specs.declared.moves.Step.TheVariants as step
use Rattle.fly_state.specs.declared.entries.Entry.{Entry}
use Rattle.fly_state.specs.declared.view.View.{View}
use Rattle.fly_state.specs.Plans.{RunPlan, Path, workflow_in, numbered_case, is_task, is_workflow, is_branch, task_of}
use Rattle.fly_state.specs.States.{fresh_node, node_state, own_state, fresh_slot, phase_of, is_final, is_not_yet_started, is_running, is_succeeded, instance_state, known_in}
use Rattle.fly_state.specs.Standing.{standing_of, is_at_rest, is_settled}
use Rattle.fly_state.specs.Inputs.{inputs_of_node, value_in, fault_code, count_of_items, choice_of}
use Rattle.fly_state.specs.declared.effects.Effect.{Effect}
use Rattle.fly_state.specs.Moves.{of_slot, where_true, is_queued, run_slot, new_item, no_places, may_run, is_cached, attempt_limit, outcome_in, slot_after, settled_slot, success_phase, retried_slot, failed_slot, is_ready, inputs_when, begun_slot, queued_slot, chosen_slot, no_case_slot, input_failed_slot, skipped_slot, run_task_effect, run_array_effect, run_effect, hit_content, hit_slot, is_succeeding, is_stored, stored_slot, item_ends, array_outputs, min_successes_of, succeeded_slot, task_run_by, closed_array_slot, branch_after, closed_branch_slot, has_failure, misses_output, slot_with_outputs, closed_instance_slot, closed_node_slot, aborted_slot, is_retryable, node_effect, item_effect, root_effect}
use Rattle.fly_world.specs.Versions.{IsComplete, AreAllComplete, is_root_phase}
use Rattle.fly_world.proofs.EffectLemmas.{in_some, in_where, in_map, in_then, in_cond, in_either, passed}

-- ---- slots

-- in a phase in which nothing needs to be given
pub idle : {X : Type 0} → false ≡ true → X
idle e = absurd (false≢true e)

or_right : (a b : Bool) → b ≡ true → a || b ≡ true
or_right true b h = refl
or_right false b h = h

in_kind : {Y : Type 0} (P : Y → Type 0) (b : Bool) (o r : Option Y) → (b ≡ true → (y : Y) → o ≡ Some y → P y)
    → ((y : Y) → r ≡ Some y → P y) → (y : Y) → cond b o r ≡ Some y → P y
in_kind P true o r p q y h = p refl y h
in_kind P false o r p q y h = q y h

given_by : {X Y : Type 0} (f : X → Y) (o : Option X) → is_some o ≡ true → is_some (option_map f o) ≡ true
given_by f None h = absurd (false≢true h)
given_by f (Some x) h = refl

fresh-complete : IsComplete fresh_slot
fresh-complete = idle

-- the node of a number is complete, also where it is not there
pub node-complete : (s : ExecState) → AreAllComplete s → (i : ℕ) → IsComplete (node_state s i).own
    × All IsComplete (node_state s i).items
node-complete s all i = by (slice_get s.nodes i) refl
  where
    by : (o : Option NodeState) → slice_get s.nodes i ≡ o → IsComplete (unwrap_or o fresh_node).own
        × All IsComplete (unwrap_or o fresh_node).items
    by None e = (fresh-complete, All-nil IsComplete)
    by (Some n) e = all.nodes i n e

own-complete : (s : ExecState) → AreAllComplete s → (i : ℕ) → IsComplete (own_state s i)
own-complete s all i = (node-complete s all i).0

module _ (plan : RunPlan) (s : ExecState) (i : ℕ) (p : PlanNode) where
  begun-complete : (x : SlotState) → begun_slot plan s i p ≡ Some x → IsComplete x
  begun-complete x h =
      in_map IsComplete (λ inputs. record (own_state s i) { phase = phase.Running; inputs = Some inputs })
      (λ inputs. idle)
      (inputs_when (is_workflow p.node) plan s i p) x h

  queued-complete : (x : SlotState) → queued_slot plan s i p ≡ Some x → IsComplete x
  queued-complete x h =
      in_map IsComplete (λ inputs. record (own_state s i) { phase = phase.Queued; inputs = Some inputs })
      (λ inputs. idle)
      (inputs_when (is_task p.node || is_array p.node) plan s i p) x h

  chosen-complete : (case : ℕ) (x : SlotState) → chosen_slot plan s i p case ≡ Some x → IsComplete x
  chosen-complete case x h =
      let taken : SlotState = record (own_state s i) { phase = phase.Running; choice = Some case } in
      in_then IsComplete (λ choice. where_true (eqb case choice) (Some taken))
      (λ choice. in_where IsComplete (eqb case choice) (Some taken) (in_some IsComplete taken idle))
      (option_and_then (λ inputs. choice_of inputs p.node) (inputs_when (is_branch p.node) plan s i p)) x h

  no_case-complete : (x : SlotState) → no_case_slot plan s i p ≡ Some x → IsComplete x
  no_case-complete x h =
      let failed : SlotState = failed_slot (own_state s i) (codes "NoCase") in
      in_then IsComplete (λ inputs. where_true (is_none (choice_of inputs p.node)) (Some failed))
      (λ inputs. in_where IsComplete (is_none (choice_of inputs p.node)) (Some failed)
      (in_some IsComplete failed idle))
      (inputs_when (is_branch p.node) plan s i p) x h

  input_failed-complete : (x : SlotState) → input_failed_slot plan s i p ≡ Some x → IsComplete x
  input_failed-complete x h =
      let code = fault_code (inputs_of_node plan s p None) in
      in_where IsComplete (not (is_branch p.node) && is_ready plan s i)
      (option_map (failed_slot (own_state s i)) code)
      (in_map IsComplete (failed_slot (own_state s i)) (λ c. idle) code) x h

  skipped-complete : (x : SlotState) → skipped_slot plan s i ≡ Some x → IsComplete x
  skipped-complete x h =
      let skipped : SlotState = record (own_state s i) { phase = phase.Skipped } in
      in_where IsComplete (is_not_yet_started (phase_of s i) && is_skipped_standing (standing_of plan s i))
      (Some skipped)
      (in_some IsComplete skipped idle) x h

  array-complete : (n : NodeState) (x : SlotState) → closed_array_slot plan n p ≡ Some x → IsComplete x
  array-complete n x h =
      let min = min_successes_of p in
      let enough = leb (minimum min (item_ends n.items)) (success_count (item_ends n.items)) in
      let end : Task → SlotState = λ t.
      cond enough (succeeded_slot n.own (array_outputs min t n.items))
      (failed_slot n.own (codes "TooFewSuccesses")) in
      in_where IsComplete (list_all (λ (item : SlotState). is_final item.phase) n.items)
      (option_map end (task_run_by plan p))
      (in_map IsComplete end (λ t. in_cond IsComplete enough _ _ (λ e. refl) idle) (task_run_by plan p)) x h

  branch_end-complete : (slot case : SlotState) → IsComplete case → (f : Phase) → case.phase ≡ f
      → IsComplete (branch_after plan p slot case)
  branch_end-complete slot case h phase.Succeeded e =
      rw e (λ given. given_by _ case.outputs (h (rw e refl)))
  branch_end-complete slot case h phase.Skipped e = rw e idle
  branch_end-complete slot case h phase.NotYetStarted e = rw e idle
  branch_end-complete slot case h phase.Queued e = rw e idle
  branch_end-complete slot case h phase.Running e = rw e idle
  branch_end-complete slot case h phase.RetryableFailure e = rw e idle
  branch_end-complete slot case h phase.Succeeding e = rw e idle
  branch_end-complete slot case h phase.Failed e = rw e idle
  branch_end-complete slot case h phase.TimedOut e = rw e idle
  branch_end-complete slot case h phase.Aborted e = rw e idle

  branch-complete : AreAllComplete s → (x : SlotState) → closed_branch_slot plan s i p ≡ Some x → IsComplete x
  branch-complete all x h =
      let end : ℕ → SlotState = λ case. branch_after plan p (own_state s i) (own_state s case) in
      in_then IsComplete (λ case. where_true (is_at_rest plan s case) (Some (end case)))
      (λ case. in_where IsComplete (is_at_rest plan s case) (Some (end case))
      (in_some IsComplete (end case)
      (branch_end-complete (own_state s i) (own_state s case) (own-complete s all case)
      (own_state s case).phase refl)))
      (option_and_then (numbered_case plan p) (own_state s i).choice) x h

outputs-complete : (slot : SlotState) (t : Taken LiteralMap) (x : SlotState) → slot_with_outputs slot t ≡ Some x
    → IsComplete x
outputs-complete slot (Ok outputs) x h = in_some IsComplete (succeeded_slot slot outputs) (λ e. refl) x h
outputs-complete slot (Err (docs.enum_outside text)) x h = in_some IsComplete
    (failed_slot slot (codes "EnumOutside")) idle x h
outputs-complete slot (Err (docs.unequal_lengths first second)) x h = absurd (none-some x h)
outputs-complete slot (Err (docs.too_many_items count)) x h = absurd (none-some x h)
outputs-complete slot (Err docs.unknown) x h = absurd (none-some x h)

module _ (plan : RunPlan) (s : ExecState) (instance : Path) where
  closing-complete : (w : Workflow) (x : SlotState)
      → cond (has_failure plan s instance) (Some (failed_slot (instance_state plan s instance) (codes "NodeFailed")))
      (cond (misses_output plan s instance w)
      (Some (failed_slot (instance_state plan s instance) (codes "OutputMissing")))
      (slot_with_outputs (instance_state plan s instance)
      (workflow_outputs plan.documents w (known_in plan s instance)))) ≡ Some x → IsComplete x
  closing-complete w x h =
      let slot = instance_state plan s instance in
      let failed : SlotState = failed_slot slot (codes "NodeFailed") in
      let missing : SlotState = failed_slot slot (codes "OutputMissing") in
      let outputs = workflow_outputs plan.documents w (known_in plan s instance) in
      in_either IsComplete (has_failure plan s instance) (Some failed)
      (cond (misses_output plan s instance w) (Some missing) (slot_with_outputs slot outputs))
      (in_some IsComplete failed idle)
      (in_either IsComplete (misses_output plan s instance w) (Some missing) (slot_with_outputs slot outputs)
      (in_some IsComplete missing idle)
      (outputs-complete slot outputs)) x h

  instance-complete : (x : SlotState) → closed_instance_slot plan s instance ≡ Some x → IsComplete x
  instance-complete x h =
      in_where IsComplete (is_settled plan s instance) _
      (in_then IsComplete _ closing-complete (workflow_in plan instance)) x h

module _ (plan : RunPlan) (s : ExecState) (i : ℕ) (p : PlanNode) (all : AreAllComplete s) where
  closed_kind-complete : (t : Target-F Target Case Node) → out-Target p.node.target ≡ t → (x : SlotState)
      → closed_node_slot plan s i p ≡ Some x
      → IsComplete x
  closed_kind-complete (Target-F.Array task min) e x h =
      in_where IsComplete (is_running (phase_of s i)) (closed_array_slot plan (node_state s i) p)
      (array-complete plan s i p (node_state s i)) x (rw e at h)
  closed_kind-complete (Target-F.Branch cases otherwise error) e x h =
      in_where IsComplete (is_running (phase_of s i)) (closed_branch_slot plan s i p)
      (branch-complete plan s i p all) x (rw e at h)
  closed_kind-complete (Target-F.Workflow id) e x h =
      in_where IsComplete (is_running (phase_of s i)) (closed_instance_slot plan s p.path)
      (instance-complete plan s p.path) x (rw e at h)
  closed_kind-complete (Target-F.Task id) e x h =
      in_where IsComplete (is_running (phase_of s i)) None (λ y none. absurd (none-some y none)) x (rw e at h)

-- ---- what runs

end-complete : (done : Phase) (slot : SlotState) (o : Outcome) (k limit : ℕ)
    → IsComplete (slot_after done slot o (next_of o k limit))
end-complete done slot (outcome.Succeeded outputs) k limit = λ e. refl
end-complete done slot (outcome.Recoverable code message) k limit = again (ltb (k + 1) limit)
  where
    again : (b : Bool) → IsComplete
        (slot_after done slot (outcome.Recoverable code message) (cond b next.Again next.Failed))
    again true = idle
    again false = idle
end-complete done slot (outcome.Fatal code message) k limit = idle
end-complete done slot outcome.TimedOut k limit = again (ltb (k + 1) limit)
  where
    again : (b : Bool) → IsComplete (slot_after done slot outcome.TimedOut (cond b next.Again next.TimedOut))
    again true = idle
    again false = idle

settled-complete : (plan : RunPlan) (v : View) (p : PlanNode) (item : Option ℕ) (done : Phase) (slot x : SlotState)
    → settled_slot plan v p item done slot ≡ Some x → IsComplete x
settled-complete plan v p item done slot x h =
    let end : Outcome → SlotState = λ o. slot_after done slot o (next_of o slot.attempt (attempt_limit plan p)) in
    in_where IsComplete (is_running slot.phase) (option_map end (outcome_in v p item slot.attempt))
    (in_map IsComplete end (λ o. end-complete done slot o slot.attempt (attempt_limit plan p))
    (outcome_in v p item slot.attempt)) x h

retried-complete : (slot x : SlotState) → retried_slot slot ≡ Some x → IsComplete x
retried-complete slot x h =
    let again : SlotState = record slot { phase = phase.Running; attempt = slot.attempt + 1 } in
    in_where IsComplete (is_retryable slot.phase) (Some again) (in_some IsComplete again idle) x h

aborted-complete : (slot x : SlotState) → aborted_slot slot ≡ Some x → IsComplete x
aborted-complete slot x h =
    let aborted : SlotState = record slot { phase = phase.Aborted } in
    in_where IsComplete (not (is_final slot.phase)) (Some aborted) (in_some IsComplete aborted idle) x h

-- ---- the root

module _ (plan : RunPlan) (s : ExecState) where
  -- the inputs stay, and the root has succeeded or failed
  abbrev pub IsClosedRoot : SlotState → Type 0
  IsClosedRoot x = (x.inputs ≡ s.root.inputs) × (is_root_phase x.phase ≡ true)

  outputs-closed : (t : Taken LiteralMap) (x : SlotState) → slot_with_outputs s.root t ≡ Some x → IsClosedRoot x
  outputs-closed (Ok outputs) x h = in_some IsClosedRoot (succeeded_slot s.root outputs) (refl, refl) x h
  outputs-closed (Err (docs.enum_outside text)) x h = in_some IsClosedRoot
      (failed_slot s.root (codes "EnumOutside")) (refl, refl) x h
  outputs-closed (Err (docs.unequal_lengths first second)) x h = absurd (none-some x h)
  outputs-closed (Err (docs.too_many_items count)) x h = absurd (none-some x h)
  outputs-closed (Err docs.unknown) x h = absurd (none-some x h)

  closing-closed : (w : Workflow) (x : SlotState)
      → cond (has_failure plan s []) (Some (failed_slot s.root (codes "NodeFailed")))
      (cond (misses_output plan s [] w) (Some (failed_slot s.root (codes "OutputMissing")))
      (slot_with_outputs s.root (workflow_outputs plan.documents w (known_in plan s [])))) ≡ Some x → IsClosedRoot x
  closing-closed w x h =
      let failed : SlotState = failed_slot s.root (codes "NodeFailed") in
      let missing : SlotState = failed_slot s.root (codes "OutputMissing") in
      let outputs = workflow_outputs plan.documents w (known_in plan s []) in
      in_either IsClosedRoot (has_failure plan s []) (Some failed)
      (cond (misses_output plan s [] w) (Some missing) (slot_with_outputs s.root outputs))
      (in_some IsClosedRoot failed (refl, refl))
      (in_either IsClosedRoot (misses_output plan s [] w) (Some missing) (slot_with_outputs s.root outputs)
      (in_some IsClosedRoot missing (refl, refl))
      (outputs-closed outputs)) x h

  root-closed : (x : SlotState) → closed_instance_slot plan s [] ≡ Some x → IsClosedRoot x
  root-closed x h = in_where IsClosedRoot (is_settled plan s []) _
      (in_then IsClosedRoot _ closing-closed (workflow_in plan [])) x h

-- ---- effects

-- what a move makes is complete, and it makes items of arrays alone
pub record IsWhole (array : Bool) (e : Effect) : Type 0 where
  pub own : IsComplete e.slot
  pub items : IfSome e.items (All IsComplete)
  pub array_only : (e.items ≡ None) ⊎ (array ≡ true)

module _ (array : Bool) where
  whole_slot : (o : Option SlotState) (e : Effect) → option_map of_slot o ≡ Some e
      → ((x : SlotState) → o ≡ Some x → IsComplete x) → IsWhole array e
  whole_slot None e h complete = absurd (none-some e h)
  whole_slot (Some x) e h complete =
      subst (IsWhole array) (same_Some (of_slot x) e h)
      (record { own = complete x refl; items = tt; array_only = inl refl })

module _ (plan : RunPlan) (v : View) (i : ℕ) (p : PlanNode) (all : AreAllComplete v.state) where
  hit-complete : (es : List Entry) (x : SlotState) → hit_slot plan v es i p ≡ Some x → IsComplete x
  hit-complete [] x h = absurd (none-some x h)
  hit-complete (e ∷ []) x h =
      let hit : LiteralMap → SlotState = λ content. record
      (own_state v.state i) { phase = phase.Succeeded; outputs = Some content } in
      in_where IsComplete (is_queued (phase_of v.state i) && is_cached plan p) (option_map hit (hit_content v p e))
      (in_map IsComplete hit (λ content e. refl) (hit_content v p e)) x h
  hit-complete (e ∷ r ∷ es) x h = absurd (none-some x h)

  -- what is being stored has outputs
  stored-complete : (es : List Entry) (x : SlotState) → stored_slot v es i p ≡ Some x → IsComplete x
  stored-complete [] x h = absurd (none-some x h)
  stored-complete (e ∷ []) x h =
      let own = own_state v.state i in
      let stored : SlotState = record own { phase = phase.Succeeded } in
      let test = is_succeeding (phase_of v.state i) && is_stored v p e in
      let succeeding = (and_parts (is_succeeding (phase_of v.state i)) (is_stored v p e)
      (passed test (Some stored) x h)).0 in
      in_where IsComplete test (Some stored)
      (in_some IsComplete stored (λ f. own-complete v.state all i
      (or_right (is_succeeded own.phase) (is_succeeding own.phase) succeeding))) x h
  stored-complete (e ∷ r ∷ es) x h = absurd (none-some x h)

  run-whole : (es : List Entry) (miss lease : Option ℕ) (e : Effect) → run_effect plan v es i p miss lease ≡ Some e
      → IsWhole (is_array p.node) e
  run-whole es miss lease e h =
      let Whole : Effect → Type 0 = IsWhole (is_array p.node) in
      let runs : Effect = of_slot (run_slot (own_state v.state i)) in
      in_where Whole (is_queued (phase_of v.state i))
      (cond (is_array p.node) (run_array_effect plan v es i p miss lease) (run_task_effect plan v es i p miss lease))
      (in_kind Whole (is_array p.node) (run_array_effect plan v es i p miss lease)
      (run_task_effect plan v es i p miss lease)
      (λ array. items-whole array es miss lease)
      (in_then Whole (λ t. where_true (may_run v p t miss lease es) (Some runs))
      (λ t. in_where Whole (may_run v p t miss lease es) (Some runs)
      (in_some Whole runs (record { own = idle; items = tt; array_only = inl refl }))) (task_of plan p))) e h
    where
      items-whole : is_array p.node ≡ true → (es : List Entry) (miss lease : Option ℕ) (e : Effect)
          → run_array_effect plan v es i p miss lease ≡ Some e
          → IsWhole (is_array p.node) e
      items-whole array es miss lease e h =
          let items : LiteralMap → Effect = λ inputs. record {
            slot = record (own_state v.state i) { phase = phase.Running };
            items = Some (replicate (count_of_items plan p inputs) new_item);
          } in
          let inputs = value_in (inputs_of_node plan v.state p None) in
          in_where (IsWhole (is_array p.node)) (no_places miss lease es) (option_map items inputs)
          (in_map (IsWhole (is_array p.node)) items (λ m. record {
            own = idle;
            items = All-replicate IsComplete (count_of_items plan p m) new_item idle;
            array_only = inr array;
          }) inputs) e h

  pub node-whole : (es : List Entry) (st : Step) (e : Effect) → node_effect plan v es i p st ≡ Some e
      → IsWhole (is_array p.node) e
  node-whole es step.Begin e h = whole_slot (is_array p.node) (begun_slot plan v.state i p) e h
      (begun-complete plan v.state i p)
  node-whole es step.Queue e h = whole_slot (is_array p.node) (queued_slot plan v.state i p) e h
      (queued-complete plan v.state i p)
  node-whole es (step.Choose case) e h =
      whole_slot (is_array p.node) (chosen_slot plan v.state i p case) e h (chosen-complete plan v.state i p case)
  node-whole es step.NoCase e h = whole_slot (is_array p.node) (no_case_slot plan v.state i p) e h
      (no_case-complete plan v.state i p)
  node-whole es step.InputFail e h =
      whole_slot (is_array p.node) (input_failed_slot plan v.state i p) e h (input_failed-complete plan v.state i p)
  node-whole es step.Skip e h = whole_slot (is_array p.node) (skipped_slot plan v.state i) e h
      (skipped-complete plan v.state i p)
  node-whole es (step.Run miss lease) e h = run-whole es miss lease e h
  node-whole es (step.Hit place) e h = whole_slot (is_array p.node) (hit_slot plan v es i p) e h (hit-complete es)
  node-whole es step.Retry e h =
      whole_slot (is_array p.node) (retried_slot (own_state v.state i)) e h (retried-complete (own_state v.state i))
  node-whole es step.Settle e h =
      let slot = settled_slot plan v p None (success_phase plan p) (own_state v.state i) in
      whole_slot (is_array p.node) (where_true (is_task p.node) slot) e h
      (in_where IsComplete (is_task p.node) slot
      (settled-complete plan v p None (success_phase plan p) (own_state v.state i)))
  node-whole es (step.Stored place) e h = whole_slot (is_array p.node) (stored_slot v es i p) e h (stored-complete es)
  node-whole es step.Close e h =
      whole_slot (is_array p.node) (closed_node_slot plan v.state i p) e h
      (closed_kind-complete plan v.state i p all (out-Target p.node.target) refl)
  node-whole es step.Abort e h =
      whole_slot (is_array p.node) (aborted_slot (own_state v.state i)) e h (aborted-complete (own_state v.state i))

pub item-whole : (plan : RunPlan) (v : View) (p : PlanNode) (item : ℕ) (slot : SlotState) (st : Step) (e : Effect)
    → item_effect plan v p item slot st ≡ Some e → IsComplete e.slot
item-whole plan v p item slot step.Retry e h = (whole_slot false (retried_slot slot) e h (retried-complete slot)).own
item-whole plan v p item slot step.Settle e h =
    (whole_slot false (settled_slot plan v p (Some item) phase.Succeeded slot) e h
    (settled-complete plan v p (Some item) phase.Succeeded slot)).own
item-whole plan v p item slot step.Abort e h = (whole_slot false (aborted_slot slot) e h (aborted-complete slot)).own
item-whole plan v p item slot _ e h = absurd (none-some e h)

-- the root closes with the inputs that it has, as succeeded or failed
pub root-whole : (plan : RunPlan) (s : ExecState) (st : Step) (e : Effect) → root_effect plan s st ≡ Some e
    → IsComplete e.slot × IsClosedRoot plan s e.slot
root-whole plan s step.Close e h =
    let Keeps : SlotState → Type 0 = λ x. IsComplete x × IsClosedRoot plan s x in
    in_where (λ (f : Effect). Keeps f.slot) (is_running s.root.phase)
    (option_map of_slot (closed_instance_slot plan s []))
    (root-slot plan s) e h
  where
    root-slot : (plan : RunPlan) (s : ExecState) (e : Effect) → option_map of_slot (closed_instance_slot plan s [])
        ≡ Some e
        → IsComplete e.slot × IsClosedRoot plan s e.slot
    root-slot plan s e h = by (closed_instance_slot plan s []) refl h
      where
        by : (o : Option SlotState) → closed_instance_slot plan s [] ≡ o → option_map of_slot o ≡ Some e
            → IsComplete e.slot × IsClosedRoot plan s e.slot
        by None is h = absurd (none-some e h)
        by (Some x) is h =
            subst (λ (f : Effect). IsComplete f.slot × IsClosedRoot plan s f.slot) (same_Some (of_slot x) e h)
            (instance-complete plan s [] x is, root-closed plan s x is)
root-whole plan s _ e h = absurd (none-some e h)
