-- No entry takes progress back, progress has a bound, and the calls of a turn leave the bound as it is.
use Rattle.std.proofs.Common.{◌≡◌, ◌≢◌, ℕ, ◌+◌, ◌*◌, ◌≤◌, Bool, true, false, if◌then◌else◌, List, [], ◌∷◌, ◌++◌, map, length, sum_by, Contains, Option, Some, None, refl, sym, subst, ap, ◌∙◌, arith, le_refl, le_trans, length-set}
use Rattle.std.specs.List.{slice_get, enumerate_from, list_any}
use Rattle.std.proofs.lemmas.Bool.{false≢true}
use Rattle.std.proofs.lemmas.List.Elements.{Contains-push}
use Rattle.fly_cast.proofs.Options.{map-some}
use Rattle.fly_types.specs.declared.text.Text.{Text}
use Rattle.fly_types.specs.declared.literals.LiteralMap.{LiteralMap}
use Rattle.fly_docs.specs.declared.workflow.Workflow.{Workflow}
use Rattle.fly_docs.specs.Plans.{PlanNode}
use Rattle.fly_state.specs.declared.phase.Phase.{Phase}
use Rattle.fly_state.specs.declared.phase.Phase.TheVariants as phase
use Rattle.fly_state.specs.declared.entries.Entry.{Entry}
use Rattle.fly_state.specs.declared.entries.Op.{Op}
use Rattle.fly_state.specs.declared.entries.Op.TheVariants as op
use Rattle.fly_state.specs.declared.entries.Reply.{Reply}
use Rattle.fly_state.specs.declared.moves.Move.{Move}
use Rattle.fly_state.specs.declared.view.View.{View}
use Rattle.fly_state.specs.Moves.{attempt_limit}
use Rattle.fly_state.specs.PlanTables.{IsOuterPlan, outer_node}
use Rattle.fly_state.specs.Plans.{RunPlan, is_task, is_task_target, node_numbered}
use Rattle.fly_state.specs.States.{own_state}
use Rattle.fly_state.proofs.OuterNodes.{its}
use Rattle.fly_state.proofs.OuterPlans.{numbered-outer}
use Rattle.fly_world.specs.declared.versions.Past.{Past}
use Rattle.fly_world.specs.World.{World, Execution, empty_world}
use Rattle.fly_world.specs.Changes.{Change, no_change, moment_becomes, catalog_becomes, lets_go, adds_execution, adds_launch, adds_claim, adds_outcome, adds_version, with_change, with_version}
use Rattle.fly_world.specs.Journals.{Step, Leads, IsHistory}
use Rattle.fly_world.specs.ReadOff.{submissions_by}
use Rattle.fly_world.proofs.JournalLemmas.{step_cases, leads-on}
use Rattle.fly_world.proofs.StepLemmas.{submission_in}
use Rattle.fly_round.specs.declared.told.Told.{Told}
use Rattle.fly_round.specs.Moves.{round_moves}
use Rattle.fly_round.specs.Questions.{Question, look_up, reserve, launch, expire, put, Asks, next_question}
use Rattle.fly_work.specs.Bounds.{slot_bound, own_attempts, node_bound, execution_bound, world_bound}
use Rattle.fly_work.specs.Progress.{is_claim_of, node_progress, root_progress, execution_progress, progress, ProgressStays, ProgressIsBounded, BoundStays}
use Rattle.fly_work.specs.Stages.{Turn, Stage, starting, sweeping, reading, asking, claiming, running, finishing, over, cut, closing_op, IsDueInRound, IsDue, Goes}
use Rattle.fly_work.specs.Turns.{call_entry}
use Rattle.fly_work.proofs.ProgressRaises.{change-on}
use Rattle.fly_work.proofs.RunShapes.{IsRunState, HasRunShape, run-shapes}
use Rattle.fly_work.proofs.SlotSteps.{most-progress}
use Rattle.fly_work.proofs.Sums.{sums-le, sums-same, sum-each, count-le, numbered-at}

-- ---- progress stays

history-more : (plan : RunPlan) (closure : List ℕ) (journal : List Entry) (w next : World) (e : Entry)
    → IsHistory plan closure journal w → Step plan w e next → IsHistory plan closure (journal ++ e ∷ []) next
history-more plan closure journal w next e history s = record {
  later = history.later ++ e ∷ [];
  begins = ap (λ es. es ++ e ∷ []) history.begins;
  leads = leads-on plan empty_world w next journal (e ∷ []) history.leads (next, s, refl);
}

pub progress-stays : ProgressStays
progress-stays plan f closure journal [] w new outer history leads =
    subst (λ u. progress plan w ≤ progress plan u) (sym leads) (le_refl _)
progress-stays plan f closure journal (e ∷ es) w new outer history leads =
    let next = leads.0 in
    let one : progress plan w ≤ progress plan next =
    step_cases plan (λ u. progress plan w ≤ progress plan u) w next e leads.1
    (λ c permits tells. change-on plan f outer closure journal w history c permits) in
    le_trans one
    (progress-stays plan f closure (journal ++ e ∷ []) es next new outer
    (history-more plan closure journal w next e history leads.1) leads.2)

-- ---- the bound

root-le : (f : Phase) → root_progress f ≤ 1
root-le phase.NotYetStarted = omega arith
root-le phase.Queued = omega arith
root-le phase.Running = omega arith
root-le phase.RetryableFailure = omega arith
root-le phase.Succeeding = omega arith
root-le _ = omega arith

module _ (plan : RunPlan) (f : Workflow) (outer : IsOuterPlan plan f) where
  -- each node has the attempts of its task
  task-attempts : (i : ℕ) (p : PlanNode) → node_numbered plan i ≡ Some p → own_attempts plan p ≡ attempt_limit plan p
  task-attempts i p planned =
      let node = map-some (λ m. outer_node f (i, m)) (slice_get f.nodes i) p
      (sym (numbered-outer plan f outer i) ∙ planned) in
      let task : is_task p.node ≡ true = ap (λ (q : PlanNode). is_task q.node) node.2
      ∙ ap is_task_target (its plan f outer i node.0 node.1).2 in
      ap (λ b. if b then attempt_limit plan p else 0) task

  module _ (w : World) (x : Execution) (state : IsRunState plan x.state) where
    no-items : (at : ℕ × PlanNode) → node_bound plan x.state at ≡ slot_bound (own_attempts plan at.1)
    no-items at =
        ap (λ xs. slot_bound (own_attempts plan at.1) + length xs * slot_bound (attempt_limit plan at.1))
        (state.items at.0)
        ∙ omega arith

    node-bounded : (at : ℕ × PlanNode) → Contains (enumerate_from 0 plan.nodes) at
        → node_progress plan w x at ≤ node_bound plan x.state at
    node-bounded at has =
        let limit = attempt_limit plan at.1 in
        let planned = numbered-at plan.nodes at has in
        let timely = state.timely at.0 at.1 planned in
        let own = own_state x.state at.0 in
        let slot = most-progress limit own.attempt own.phase timely.running timely.retryable in
        let claims = count-le (λ k. list_any (is_claim_of x.name at.1.path k) w.claims) limit in
        let top : slot_bound (own_attempts plan at.1) ≡ 4 + 3 * limit =
        ap slot_bound (task-attempts at.0 at.1 planned) in
        let bound = no-items at in
        omega (arith, slot, claims, top, bound)

    execution-bounded : execution_progress plan w x ≤ execution_bound plan x
    execution-bounded =
        let root = root-le x.state.root.phase in
        let nodes = sums-le (node_progress plan w x) (node_bound plan x.state) (enumerate_from 0 plan.nodes)
        node-bounded in
        omega (arith, root, nodes)

  current-of : (w : World) → HasRunShape plan w → (x : Execution) → Contains w.executions x → IsRunState plan x.state
  current-of w shape x has = shape.versions x x.state has (Contains-push (map (λ (q : Past). q.state) x.past) x.state)

  -- the bound of an execution, of whichever
  abbrev each_bound : ℕ
  each_bound =
      slot_bound 0
      + sum_by (λ (at : ℕ × PlanNode). slot_bound (own_attempts plan at.1)) (enumerate_from 0 plan.nodes)

  bound-each : (w : World) → HasRunShape plan w → world_bound plan w ≡ length w.executions * each_bound
  bound-each w shape =
      sum-each (execution_bound plan) each_bound w.executions (λ x has.
      ap (λ n. slot_bound 0 + n)
      (sums-same (node_bound plan x.state) (λ (at : ℕ × PlanNode). slot_bound (own_attempts plan at.1))
      (enumerate_from 0 plan.nodes) (λ at there. no-items w x (current-of w shape x has) at)))

pub progress-bounded : ProgressIsBounded
progress-bounded plan f closure journal w outer history =
    let shape = run-shapes plan f outer closure journal w history in
    sums-le (execution_progress plan w) (execution_bound plan) w.executions
    (λ x has. execution-bounded plan f outer w x (current-of plan f outer w shape x has))

-- ---- calls of turns

abbrev is_submit : Op → Bool
is_submit (op.Submit exec inputs) = true
is_submit _ = false

-- no call of a turn submits an execution
module _ (plan : RunPlan) (t : Turn) (exec : Text) (inputs : LiteralMap) where
  not-closing : (v : View) (moves : List Move) → op.Submit exec inputs ≢ closing_op v moves
  not-closing v [] e = cc
  not-closing v (m ∷ ms) e = cc

  not-asked : (name : Text) (q : Question) → Asks name q (op.Submit exec inputs) → ⊥
  not-asked name (look_up path) asks = asks
  not-asked name (reserve path) asks = asks
  not-asked name (launch path item attempt given) asks = asks
  not-asked name (expire path item attempt) asks = asks
  not-asked name (put path) asks = asks

  not-in_round : (v : View) (told : List Told) (q : Option Question)
      → IsDueInRound plan v told q (op.Submit exec inputs) → ⊥
  not-in_round v told None due = not-closing v (round_moves plan v told) due
  not-in_round v told (Some q) due = not-asked v.name q due

  not-due : (at : Stage) → IsDue plan t at (op.Submit exec inputs) → ⊥
  not-due starting due = due
  not-due sweeping due = due
  not-due reading due = due
  not-due (asking v told) due = not-in_round v told (next_question plan v told) due
  not-due claiming due = due
  not-due (running work) due = due
  not-due (finishing work) due = due
  not-due over due = due
  not-due cut due = due

due-not_submit : (plan : RunPlan) (t : Turn) (at : Stage) (o : Op) → IsDue plan t at o → is_submit o ≡ false
due-not_submit plan t at (op.Submit exec inputs) due = absurd (not-due plan t exec inputs at due)
due-not_submit plan t at _ due = refl

none-submitted : (o : Op) (r : Reply) → is_submit o ≡ false → submissions_by o r ≡ []
none-submitted (op.Submit exec inputs) r other = absurd (false≢true (sym other))
none-submitted _ r other = refl

module _ (plan : RunPlan) where
  -- a step that submits nothing leaves the number of executions
  step-count : (w new : World) (e : Entry) → is_submit e.op ≡ false → Step plan w e new
      → length new.executions ≡ length w.executions
  step-count w new e other s =
      step_cases plan (λ u. length u.executions ≡ length w.executions) w new e s
      (λ c permits tells. by c (sym tells.3 ∙ none-submitted e.op e.reply other))
    where
      by : (c : Change) → submission_in c ≡ [] → length (with_change w c).executions ≡ length w.executions
      by no_change none = refl
      by (moment_becomes moment) none = refl
      by (catalog_becomes catalog) none = refl
      by (lets_go ends) none = refl
      by (adds_execution name inputs state) none = let no : ⊥ = cc in absurd no
      by (adds_launch name inputs) none = refl
      by (adds_claim name) none = refl
      by (adds_outcome name o) none = refl
      by (adds_version at state) none = length-set w.executions at.0 (with_version state (length w.entries) at.1)

  calls-count : (closure : List ℕ) (journal : List Entry) (t : Turn) (at end : Stage) (calls : List Told)
      (w new : World)
      → Goes plan closure journal t at calls end → Leads plan w (map (call_entry t.worker) calls) new
      → length new.executions ≡ length w.executions
  calls-count closure journal t at end [] w new goes leads = ap (λ (u : World). length u.executions) leads
  calls-count closure journal t at end (c ∷ cs) w new goes leads =
      calls-count closure journal t goes.0 end cs leads.0 new goes.3 leads.2
      ∙ step-count w leads.0 (call_entry t.worker c) (due-not_submit plan t at c.op goes.1) leads.1

pub bound-stays : BoundStays
bound-stays f t old new calls outer legal new_legal adds turn =
    let same = calls-count old.plan old.closure new.world.entries t starting over calls old.world new.world turn.goes
    adds.leads in
    let history : IsHistory old.plan new.closure new.world.entries new.world =
    subst (λ p. IsHistory p new.closure new.world.entries new.world) adds.plan new_legal in
    let before = bound-each old.plan f outer old.world
    (run-shapes old.plan f outer old.closure old.world.entries old.world legal) in
    let after = bound-each old.plan f outer new.world
    (run-shapes old.plan f outer new.closure new.world.entries new.world history) in
    (same, after ∙ ap (λ n. n * each_bound old.plan f outer) same ∙ sym before)
