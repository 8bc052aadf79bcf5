-- Where a step has an effect, its conditions hold.
use Rattle.std.proofs.Common.{◌≡◌, ℕ, Bool, true, false, ◌&&◌, if◌then◌else◌, List, [], ◌∷◌, codes, Option, Some, None, option_map, option_and_then, is_some, IfOk, Result, Ok, Err, refl, sym, ◌∙◌, ap, subst}
use Rattle.std.proofs.lemmas.Bool.{false≢true}
use Rattle.fly_types.specs.declared.literals.LiteralMap.{LiteralMap}
use Rattle.fly_docs.specs.declared.task.Task.{Task}
use Rattle.fly_docs.specs.declared.workflow.Workflow.{Workflow}
use Rattle.fly_docs.specs.Lookups.{primary_of}
use Rattle.fly_docs.specs.Plans.{PlanNode, is_array, is_array_target}
use Rattle.fly_docs.specs.SlotInputs.{Taken, workflow_outputs}
use Rattle.fly_policy.specs.declared.outcome.Outcome.{Outcome}
use Rattle.fly_policy.specs.Retries.{next_of}
use Rattle.fly_state.specs.declared.phase.Phase.TheVariants as phase
use Rattle.fly_state.specs.declared.slots.SlotState.{SlotState}
use Rattle.fly_state.specs.declared.slots.ExecState.{ExecState}
use Rattle.fly_state.specs.declared.moves.Step.{Step}
use Rattle.fly_state.specs.declared.moves.Step.TheVariants as step
use Rattle.fly_state.specs.declared.entries.Entry.{Entry}
use Rattle.fly_state.specs.declared.entries.Op.{Op}
use Rattle.fly_state.specs.declared.entries.Op.TheVariants as op
use Rattle.fly_state.specs.declared.entries.Reply.{Reply}
use Rattle.fly_state.specs.declared.entries.Reply.TheVariants as reply
use Rattle.fly_state.specs.declared.view.View.{View}
use Rattle.fly_state.specs.Inputs.{inputs_of_node, value_in, fault_code}
use Rattle.fly_state.specs.Moves.{Effect, of_slot, where_true, may_run, is_cached, is_queued, run_slot, failed_slot, hit_content, outcome_in, slot_after, success_phase, attempt_limit, has_failure, misses_output, slot_with_outputs, closed_instance_slot, run_array_effect, node_effect}
use Rattle.fly_state.specs.NodeSlots.{HasEffect, MakesSlot}
use Rattle.fly_state.specs.Plans.{RunPlan, node_numbered, task_of, is_task}
use Rattle.fly_state.specs.Standing.{is_settled}
use Rattle.fly_state.specs.States.{own_state, phase_of, is_running, known_in}
use Rattle.fly_state.proofs.TaskNodes.{TaskNode}

-- ---- what a condition lets through

where-some : {X : Type 0} (b : Bool) (o : Option X) → is_some (where_true b o) ≡ true → where_true b o ≡ o
where-some true o e = refl
where-some false o e = absurd (false≢true e)

where-there : {X : Type 0} (b : Bool) (o : Option X) → is_some (where_true b o) ≡ true → is_some o ≡ true
where-there true o e = e
where-there false o e = absurd (false≢true e)

map-there : {X Y : Type 0} (f : X → Y) (o : Option X) → is_some (option_map f o) ≡ true → is_some o ≡ true
map-there f None e = e
map-there f (Some x) e = refl

run-made : (b : Bool) (o : Option Task) (may : Task → Bool) (x : Effect)
    → is_some (where_true b (option_and_then (λ t. where_true (may t) (Some x)) o)) ≡ true
    → where_true b (option_and_then (λ t. where_true (may t) (Some x)) o) ≡ Some x
run-made true (Some t) may x e = where-some (may t) (Some x) e
run-made true None may x e = absurd (false≢true e)
run-made false o may x e = absurd (false≢true e)

-- ---- answers

pub ok-makes : {E : Type 0} (plan : RunPlan) (v : View) (entries : List Entry) (i : ℕ) (st : Step) (x : SlotState)
    (r : Result SlotState E) → MakesSlot plan v entries i st x → IfOk r (λ slot. slot ≡ x)
    → IfOk r (MakesSlot plan v entries i st)
ok-makes plan v entries i st x (Ok slot) makes same = subst (MakesSlot plan v entries i st) (sym same) makes
ok-makes plan v entries i st x (Err fault) makes same = tt

pub ok-some : {E : Type 0} (o : Option SlotState) (x : SlotState) (r : Result SlotState E)
    → o ≡ Some x → IfOk r (λ slot. slot ≡ x) → IfOk r (λ slot. o ≡ Some slot)
ok-some o x (Ok slot) is same = is ∙ ap Some (sym same)
ok-some o x (Err fault) is same = tt

-- ---- what the catalog was found to have

hit-there : (v : View) (p : PlanNode) (worker : ℕ) (o : Op) (r : Reply)
    → is_some (hit_content v p (record { worker = worker; op = o; reply = r })) ≡ true
    → (content : LiteralMap) × (r ≡ reply.Hit content)
hit-there v p worker (op.Lookup exec path) (reply.Hit content) e = (content, refl)
hit-there v p worker (op.Lookup exec path) _ e = absurd (false≢true e)
hit-there v p worker _ r e = absurd (false≢true e)

-- the entry is the one that a step cites, and says what the catalog has
pub record CitedHit (entries : List Entry) : Type 0 where
  pub entry : Entry
  pub alone : entries ≡ entry ∷ []
  pub content : LiteralMap
  pub says : entry.reply ≡ reply.Hit content

-- ---- the steps of a node

module _ (plan : RunPlan) (v : View) (i : ℕ) (p : PlanNode) (planned : node_numbered plan i ≡ Some p) where
  -- a node that is queued has its inputs
  pub queued-taken : (taken : Taken LiteralMap) → HasEffect plan v [] i step.Queue
      → inputs_of_node plan v.state p None ≡ taken → is_some (value_in taken) ≡ true
  queued-taken taken has is =
      let own = own_state v.state i in
      let wanted = value_in (inputs_of_node plan v.state p None) in
      sym (ap (λ t. is_some (value_in t)) is)
      ∙ where-there _ wanted
      (map-there (λ (m : LiteralMap). record own { phase = phase.Queued; inputs = Some m }) _
      (map-there of_slot _ (has p planned)))

  -- a node whose inputs fail has a code of their fault
  pub failed-taken : (taken : Taken LiteralMap) → HasEffect plan v [] i step.InputFail
      → inputs_of_node plan v.state p None ≡ taken → is_some (fault_code taken) ≡ true
  failed-taken taken has is =
      let wanted = fault_code (inputs_of_node plan v.state p None) in
      sym (ap (λ t. is_some (fault_code t)) is)
      ∙ map-there (failed_slot (own_state v.state i)) wanted (where-there _ _ (map-there of_slot _ (has p planned)))

  -- a node that is settled has an outcome
  pub settled-outcome : HasEffect plan v [] i step.Settle
      → is_some (outcome_in v p None (own_state v.state i).attempt) ≡ true
  settled-outcome has =
      let own = own_state v.state i in
      let limit = attempt_limit plan p in
      map-there (λ (o : Outcome). slot_after (success_phase plan p) own o (next_of o own.attempt limit))
      (outcome_in v p None own.attempt)
      (where-there (is_running own.phase) _ (where-there (is_task p.node) _ (map-there of_slot _ (has p planned))))

  -- a task node that runs does so at its first attempt
  pub run-makes : (entries : List Entry) (miss lease : Option ℕ) → TaskNode plan v.state p
      → HasEffect plan v entries i (step.Run miss lease)
      → node_effect plan v entries i p (step.Run miss lease) ≡ Some (of_slot (run_slot (own_state v.state i)))
  run-makes entries miss lease node has =
      let x = of_slot (run_slot (own_state v.state i)) in
      let queued = is_queued (phase_of v.state i) in
      let may = λ (t : Task). may_run v p t miss lease entries in
      let task = option_and_then (λ (t : Task). where_true (may t) (Some x)) (task_of plan p) in
      let run = λ (array : Bool).
      where_true queued (if array then run_array_effect plan v entries i p miss lease else task) in
      let array : is_array p.node ≡ false = ap is_array_target node.target in
      subst (λ a. is_some (run a) ≡ true → run a ≡ Some x) (sym array)
      (run-made queued (task_of plan p) may x) (has p planned)

  -- a node that hits cites one entry, which says what the catalog has
  pub cited-hit : (entries : List Entry) (place : ℕ) → HasEffect plan v entries i (step.Hit place) → CitedHit entries
  cited-hit [] place has = absurd (false≢true (has p planned))
  cited-hit (e ∷ r ∷ entries) place has = absurd (false≢true (has p planned))
  cited-hit (e ∷ []) place has =
      let own = own_state v.state i in
      let may = is_queued (phase_of v.state i) && is_cached plan p in
      let found = hit-there v p e.worker e.op e.reply
      (map-there (λ (m : LiteralMap). record own { phase = phase.Succeeded; outputs = Some m }) (hit_content v p e)
      (where-there may _ (map-there of_slot _ (has p planned)))) in
      record { entry = e; alone = refl; content = found.0; says = found.1 }

-- ---- the end of a run

module _ (plan : RunPlan) (s : ExecState) (w : Workflow) (named : primary_of plan.documents ≡ Some w) where
  abbrev closed_by : Bool → Bool → Taken LiteralMap → Option SlotState
  closed_by failure misses taken =
      if failure then Some (failed_slot s.root (codes "NodeFailed"))
      else (if misses then Some (failed_slot s.root (codes "OutputMissing")) else slot_with_outputs s.root taken)

  closed-opens : closed_instance_slot plan s []
      ≡ where_true (is_settled plan s [])
      (closed_by (has_failure plan s []) (misses_output plan s [] w)
      (workflow_outputs plan.documents w (known_in plan s [])))
  closed-opens = rw named refl

  -- a run that may close, without failure and without a missing output, closes by what its outputs come to
  pub closed-outputs : (taken : Taken LiteralMap) → is_some (closed_instance_slot plan s []) ≡ true
      → has_failure plan s [] ≡ false → misses_output plan s [] w ≡ false
      → workflow_outputs plan.documents w (known_in plan s []) ≡ taken
      → (is_some (slot_with_outputs s.root taken) ≡ true)
      × (closed_instance_slot plan s [] ≡ slot_with_outputs s.root taken)
  closed-outputs taken closes failure misses is =
      let settled = is_settled plan s [] in
      let outputs = slot_with_outputs s.root taken in
      let opens : closed_instance_slot plan s [] ≡ where_true settled outputs =
      closed-opens ∙ (λ k. where_true settled (closed_by (failure k) (misses k) (is k))) in
      let some = sym (ap is_some opens) ∙ closes in
      (where-there settled outputs some, opens ∙ where-some settled outputs some)
