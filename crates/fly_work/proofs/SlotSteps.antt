-- What a legal step makes of the slot of a task: one that is further on, whose attempt is below the limit.
use Rattle.std.proofs.Common.{◌≡◌, ℕ, ◌+◌, ◌*◌, ◌<◌, ◌≤◌, Bool, true, false, not, ◌&&◌, ◌||◌, if◌then◌else◌, List, [], ◌∷◌, Option, Some, None, option_map, option_and_then, option_to_list, ltb, refl, sym, ap, ◌∙◌, subst, arith}
use Rattle.std.specs.List.{list_any, slice_get}
use Rattle.std.proofs.lemmas.Bool.{and_parts, false≢true, true≢false, ltb-true}
use Rattle.std.proofs.lemmas.List.Elements.{All-contains}
use Rattle.std.proofs.lemmas.Option.{none-some, same_Some}
use Rattle.fly_types.specs.declared.literals.LiteralMap.{LiteralMap}
use Rattle.fly_cast.proofs.Options.{map-some}
use Rattle.fly_policy.specs.declared.outcome.Outcome.{Outcome}
use Rattle.fly_policy.specs.declared.outcome.Outcome.TheVariants as outcome
use Rattle.fly_policy.specs.declared.retries.Next.{Next}
use Rattle.fly_policy.specs.declared.retries.Next.TheVariants as next
use Rattle.fly_policy.specs.Retries.{next_of}
use Rattle.fly_docs.specs.declared.node.Node.{Node}
use Rattle.fly_docs.specs.declared.node.Case.{Case}
use Rattle.fly_docs.specs.declared.node.Target.{Target, out-Target}
use Rattle.fly_docs.specs.declared.node.Target.TheOpen.{Target-F}
use Rattle.fly_docs.specs.declared.task.Task.{Task}
use Rattle.fly_docs.specs.declared.workflow.Workflow.{Workflow}
use Rattle.fly_docs.specs.Lookups.{task_named}
use Rattle.fly_docs.specs.Plans.{PlanNode, is_array}
use Rattle.fly_state.specs.declared.phase.Phase.{Phase}
use Rattle.fly_state.specs.declared.phase.Phase.TheVariants as phase
use Rattle.fly_state.specs.declared.slots.SlotState.{SlotState}
use Rattle.fly_state.specs.declared.moves.Step.{Step}
use Rattle.fly_state.specs.declared.moves.Step.TheVariants as step
use Rattle.fly_state.specs.declared.entries.Entry.{Entry}
use Rattle.fly_state.specs.declared.view.View.{View}
use Rattle.fly_state.specs.Inputs.{inputs_of_node, value_in, fault_code, choice_of}
use Rattle.fly_state.specs.declared.effects.Effect.{Effect}
use Rattle.fly_state.specs.Moves.{of_slot, where_true, is_cached, attempt_limit, is_ready, inputs_when, begun_slot, queued_slot, chosen_slot, no_case_slot, input_failed_slot, skipped_slot, failed_slot, run_slot, run_task_effect, run_array_effect, run_effect, may_run, hit_content, hit_slot, is_queued, is_succeeding, is_stored, stored_slot, is_retryable, retried_slot, outcome_in, slot_after, settled_slot, success_phase, closed_node_slot, aborted_slot, node_effect}
use Rattle.fly_state.specs.PlanTables.{IsOuterPlan, outer_node}
use Rattle.fly_state.specs.Plans.{RunPlan, is_task, is_workflow, is_workflow_target, is_branch, is_branch_target, task_of, task_target}
use Rattle.fly_state.specs.Standing.{standing_of}
use Rattle.fly_state.specs.States.{own_state, is_final, is_not_yet_started, is_running}
use Rattle.fly_rules.specs.Standing.{is_ready_standing, is_skipped_standing}
use Rattle.fly_state.proofs.AskedInputs.{found-in}
use Rattle.fly_state.proofs.FinalLemmas.{where_true-test, where_true-there, option_and_then-there, node_effect-not_final}
use Rattle.fly_state.proofs.OuterNodes.{not-array, its}
use Rattle.fly_work.specs.Drives.{IsUncached}
use Rattle.fly_work.specs.Progress.{slot_progress}

-- ---- slots

-- the attempt that a slot runs, and the one that it may make next, is below the limit
pub record IsTimely (limit : ℕ) (slot : SlotState) : Type 0 where
  pub running : is_running slot.phase ≡ true → slot.attempt < limit
  pub retryable : is_retryable slot.phase ≡ true → slot.attempt + 1 < limit

abbrev pub progress_of : ℕ → SlotState → ℕ
progress_of limit slot = slot_progress limit slot.attempt slot.phase

-- A slot that a step makes of another: it is further on, and its outputs are not being stored where no task is cached.
pub record IsRaised (plan : RunPlan) (limit : ℕ) (own slot : SlotState) : Type 0 where
  pub timely : IsTimely limit own → IsTimely limit slot
  pub higher : IsTimely limit own → progress_of limit own < progress_of limit slot
  pub whole : IsUncached plan → is_succeeding slot.phase ≡ false

-- ---- phases

module _ (limit attempt : ℕ) where
  fresh-progress : (f : Phase) → is_not_yet_started f ≡ true → slot_progress limit attempt f ≡ 0
  fresh-progress phase.NotYetStarted e = refl
  fresh-progress _ e = absurd (false≢true e)

  queued-progress : (f : Phase) → is_queued f ≡ true → slot_progress limit attempt f ≡ 1
  queued-progress phase.Queued e = refl
  queued-progress _ e = absurd (false≢true e)

  running-progress : (f : Phase) → is_running f ≡ true → slot_progress limit attempt f ≡ 2 + 2 * attempt
  running-progress phase.Running e = refl
  running-progress _ e = absurd (false≢true e)

  retryable-progress : (f : Phase) → is_retryable f ≡ true → slot_progress limit attempt f ≡ 3 + 2 * attempt
  retryable-progress phase.RetryableFailure e = refl
  retryable-progress _ e = absurd (false≢true e)

  final-progress : (f : Phase) → is_final f ≡ true → slot_progress limit attempt f ≡ 2 + 2 * limit
  final-progress phase.NotYetStarted e = absurd (false≢true e)
  final-progress phase.Queued e = absurd (false≢true e)
  final-progress phase.Running e = absurd (false≢true e)
  final-progress phase.RetryableFailure e = absurd (false≢true e)
  final-progress phase.Succeeding e = absurd (false≢true e)
  final-progress _ e = refl

  -- what is not final is below what is
  live-progress : (f : Phase) → (is_running f ≡ true → attempt < limit) → (is_retryable f ≡ true → attempt + 1 < limit)
      → is_final f ≡ false → slot_progress limit attempt f < 2 + 2 * limit
  live-progress phase.NotYetStarted runs again live = omega arith
  live-progress phase.Queued runs again live = omega arith
  live-progress phase.Running runs again live = let lt = runs refl in omega (arith, lt)
  live-progress phase.RetryableFailure runs again live = let lt = again refl in omega (arith, lt)
  live-progress phase.Succeeding runs again live = omega arith
  live-progress _ runs again live = absurd (true≢false live)

  pub most-progress : (f : Phase) → (is_running f ≡ true → attempt < limit)
      → (is_retryable f ≡ true → attempt + 1 < limit)
      → slot_progress limit attempt f ≤ 2 + 2 * limit
  most-progress phase.NotYetStarted runs again = omega arith
  most-progress phase.Queued runs again = omega arith
  most-progress phase.Running runs again = let lt = runs refl in omega (arith, lt)
  most-progress phase.RetryableFailure runs again = let lt = again refl in omega (arith, lt)
  most-progress phase.Succeeding runs again = omega arith
  most-progress _ runs again = omega arith

ended-not_running : (f : Phase) → is_final f ≡ true → is_running f ≡ true → ⊥
ended-not_running phase.Running final runs = false≢true final
ended-not_running _ final runs = false≢true runs

ended-not_retryable : (f : Phase) → is_final f ≡ true → is_retryable f ≡ true → ⊥
ended-not_retryable phase.RetryableFailure final again = false≢true final
ended-not_retryable _ final again = false≢true again

ended-not_succeeding : (f : Phase) → is_final f ≡ true → is_succeeding f ≡ false
ended-not_succeeding phase.Succeeding final = absurd (false≢true final)
ended-not_succeeding _ final = refl

-- ---- tasks that are not cached

-- of which no task is cached, no node is
pub uncached-task : (plan : RunPlan) (p : PlanNode) → IsUncached plan → is_cached plan p ≡ false
uncached-task plan p uncached = by (out-Target p.node.target)
  where
    any : (o : Option Task) → ((t : Task) → o ≡ Some t → t.cached ≡ false)
        → list_any (λ (t : Task). t.cached) (option_to_list o) ≡ false
    any None none = refl
    any (Some t) none = ap (λ b. b || false) (none t refl)

    by : (layer : Target-F Target Case Node)
        → list_any (λ (t : Task). t.cached) (option_to_list (task_target plan.documents layer)) ≡ false
    by (Target-F.Task id) = any (task_named plan.documents id) (λ t there.
        All-contains (λ (x : Task). x.cached ≡ false) plan.documents.tasks t uncached
        (found-in _ plan.documents.tasks t there).0)
    by (Target-F.Workflow id) = refl
    by (Target-F.Array id min_successes) = refl
    by (Target-F.Branch cases otherwise error) = refl

-- ---- steps

module _ (plan : RunPlan) (f : Workflow) (outer : IsOuterPlan plan f) (v : View) (i : ℕ) (n : Node)
    (there : slice_get f.nodes i ≡ Some n) where
  abbrev p : PlanNode
  p = outer_node f (i, n)

  abbrev own : SlotState
  own = own_state v.state i

  abbrev limit : ℕ
  limit = attempt_limit plan p

  abbrev Raises : SlotState → Type 0
  Raises slot = IsRaised plan limit own slot

  -- one that came to its end
  ends : is_final own.phase ≡ false → (slot : SlotState) → is_final slot.phase ≡ true → Raises slot
  ends live slot final = record {
    timely = λ h. record {
      running = λ runs. absurd (ended-not_running slot.phase final runs);
      retryable = λ again. absurd (ended-not_retryable slot.phase final again);
    };
    higher = λ h.
        let below = live-progress limit own.attempt own.phase h.running h.retryable live in
        let top = final-progress limit slot.attempt slot.phase final in
        omega (arith, below, top);
    whole = λ uncached. ended-not_succeeding slot.phase final;
  }

  -- one that runs at an attempt
  runs-at : (attempt : ℕ) → (IsTimely limit own → attempt < limit)
      → (IsTimely limit own → progress_of limit own < 2 + 2 * attempt)
      → Raises (record own { phase = phase.Running; attempt = attempt })
  runs-at attempt below further = record {
    timely = λ h. record { running = λ runs. below h; retryable = λ again. absurd (false≢true again) };
    higher = further;
    whole = λ uncached. refl;
  }

  queued-raises : (slot : SlotState) → queued_slot plan v.state i p ≡ Some slot → Raises slot
  queued-raises slot e =
      let kind = is_task n || is_array n in
      let made = map-some (λ inputs. record own { phase = phase.Queued; inputs = Some inputs })
      (inputs_when kind plan v.state i p) slot e in
      let test = where_true-test (kind && is_ready plan v.state i) (value_in (inputs_of_node plan v.state p None))
      made.0 made.1 in
      let fresh = (and_parts (is_not_yet_started own.phase) (is_ready_standing (standing_of plan v.state i))
      (and_parts kind (is_ready plan v.state i) test).1).0 in
      subst Raises (sym made.2) (record {
        timely = λ h. record {
          running = λ runs. absurd (false≢true runs);
          retryable = λ again. absurd (false≢true again);
        };
        higher = λ h. let none = fresh-progress limit own.attempt own.phase fresh in omega (arith, none);
        whole = λ uncached. refl;
      })

  input_failed-raises : is_final own.phase ≡ false → (slot : SlotState)
      → input_failed_slot plan v.state i p ≡ Some slot
      → Raises slot
  input_failed-raises live slot e =
      let code = fault_code (inputs_of_node plan v.state p None) in
      let made = map-some (failed_slot own) code slot
      (where_true-there (not (is_branch n) && is_ready plan v.state i) (option_map (failed_slot own) code) slot e) in
      subst Raises (sym made.2) (ends live (failed_slot own made.0) refl)

  skipped-raises : is_final own.phase ≡ false → (slot : SlotState) → skipped_slot plan v.state i ≡ Some slot
      → Raises slot
  skipped-raises live slot e =
      let skipped : SlotState = record own { phase = phase.Skipped } in
      subst Raises (same_Some skipped slot (where_true-there
      (is_not_yet_started own.phase && is_skipped_standing (standing_of plan v.state i)) (Some skipped) slot e))
      (ends live skipped refl)

  run-raises : (entries : List Entry) (miss lease : Option ℕ) (e : Effect)
      → run_effect plan v entries i p miss lease ≡ Some e → Raises e.slot × (e.items ≡ None)
  run-raises entries miss lease e h =
      let way = λ (b : Bool). if b then run_array_effect plan v entries i p miss lease
      else run_task_effect plan v entries i p miss lease in
      let queued = where_true-test (is_queued own.phase) (way (is_array n)) e h in
      let ran : run_task_effect plan v entries i p miss lease ≡ Some e =
      sym (ap way (not-array plan f outer i n there))
      ∙ where_true-there (is_queued own.phase) (way (is_array n)) e h in
      let task = option_and_then-there (λ t. where_true (may_run v p t miss lease entries)
      (Some (of_slot (run_slot own)))) (task_of plan p) e ran in
      let same : of_slot (run_slot own) ≡ e = same_Some _ _
      (where_true-there (may_run v p task.0 miss lease entries) (Some (of_slot (run_slot own))) e task.2) in (
        subst (λ (x : Effect). Raises x.slot) same (runs-at 0 (λ h. omega arith)
            (λ h. let one = queued-progress limit own.attempt own.phase queued in omega (arith, one))),
        ap (λ (x : Effect). x.items) (sym same),
      )

  hit-raises : is_final own.phase ≡ false → (entries : List Entry) (slot : SlotState)
      → hit_slot plan v entries i p ≡ Some slot → Raises slot
  hit-raises live [] slot e = absurd (none-some slot e)
  hit-raises live (entry ∷ []) slot e =
      let hit : LiteralMap → SlotState = λ content. record own { phase = phase.Succeeded; outputs = Some content } in
      let found = option_map hit (hit_content v p entry) in
      let made = map-some hit (hit_content v p entry) slot
      (where_true-there (is_queued own.phase && is_cached plan p) found slot e) in
      subst Raises (sym made.2) (ends live (hit made.0) refl)
  hit-raises live (a ∷ b ∷ entries) slot e = absurd (none-some slot e)

  retried-raises : (slot : SlotState) → retried_slot own ≡ Some slot → Raises slot
  retried-raises slot e =
      let next : SlotState = record own { phase = phase.Running; attempt = own.attempt + 1 } in
      let again = where_true-test (is_retryable own.phase) (Some next) slot e in
      subst Raises (same_Some next slot (where_true-there (is_retryable own.phase) (Some next) slot e))
      (runs-at (own.attempt + 1) (λ h. h.retryable again)
      (λ h. let at = retryable-progress limit own.attempt own.phase again in omega (arith, at)))

  stored-raises : is_final own.phase ≡ false → (entries : List Entry) (slot : SlotState)
      → stored_slot v entries i p ≡ Some slot → Raises slot
  stored-raises live [] slot e = absurd (none-some slot e)
  stored-raises live (entry ∷ []) slot e =
      let stored : SlotState = record own { phase = phase.Succeeded } in
      subst Raises (same_Some stored slot
      (where_true-there (is_succeeding own.phase && is_stored v p entry) (Some stored) slot e))
      (ends live stored refl)
  stored-raises live (a ∷ b ∷ entries) slot e = absurd (none-some slot e)

  aborted-raises : is_final own.phase ≡ false → (slot : SlotState) → aborted_slot own ≡ Some slot → Raises slot
  aborted-raises live slot e =
      let aborted : SlotState = record own { phase = phase.Aborted } in
      subst Raises (same_Some aborted slot (where_true-there (not (is_final own.phase)) (Some aborted) slot e))
      (ends live aborted refl)

  -- ---- outcomes

  module _ (live : is_final own.phase ≡ false) (runs : is_running own.phase ≡ true) where
    -- a success: the outputs are stored first where the task is cached
    done-raises : (outputs : Option LiteralMap)
        → Raises (record own { phase = success_phase plan p; outputs = outputs })
    done-raises outputs = by (is_cached plan p) (uncached-task plan p)
      where
        by : (c : Bool) → (IsUncached plan → c ≡ false)
            → Raises (record own { phase = if c then phase.Succeeding else phase.Succeeded; outputs = outputs })
        by true none = record {
          timely = λ h. record { running = λ e. absurd (false≢true e); retryable = λ e. absurd (false≢true e) };
          higher = λ h.
              let at = running-progress limit own.attempt own.phase runs in
              let lt = h.running runs in omega (arith, at, lt);
          whole = λ uncached. absurd (true≢false (none uncached));
        }
        by false none = ends live _ refl

    again-raises : own.attempt + 1 < limit → Raises (record own { phase = phase.RetryableFailure })
    again-raises lt = record {
      timely = λ h. record { running = λ e. absurd (false≢true e); retryable = λ e. lt };
      higher = λ h. let at = running-progress limit own.attempt own.phase runs in omega (arith, at);
      whole = λ uncached. refl;
    }

    retry-raises : (o : Outcome) (other : Next) (b : Bool) → ltb (own.attempt + 1) limit ≡ b
        → Raises (slot_after (success_phase plan p) own o other)
        → Raises (slot_after (success_phase plan p) own o (if b then next.Again else other))
    retry-raises o other true small ended = again-raises (ltb-true (own.attempt + 1) limit small)
    retry-raises o other false small ended = ended

    outcome-raises : (o : Outcome) → Raises (slot_after (success_phase plan p) own o (next_of o own.attempt limit))
    outcome-raises (outcome.Succeeded outputs) = done-raises (Some outputs)
    outcome-raises (outcome.Recoverable code message) =
        retry-raises (outcome.Recoverable code message) next.Failed (ltb (own.attempt + 1) limit) refl
        (ends live _ refl)
    outcome-raises (outcome.Fatal code message) = ends live _ refl
    outcome-raises outcome.TimedOut =
        retry-raises outcome.TimedOut next.TimedOut (ltb (own.attempt + 1) limit) refl (ends live _ refl)

  settled-raises : is_final own.phase ≡ false → (slot : SlotState)
      → settled_slot plan v p None (success_phase plan p) own ≡ Some slot → Raises slot
  settled-raises live slot e =
      let after = λ (o : Outcome). slot_after (success_phase plan p) own o (next_of o own.attempt limit) in
      let outcomes = option_map after (outcome_in v p None own.attempt) in
      let runs = where_true-test (is_running own.phase) outcomes slot e in
      let made = map-some after (outcome_in v p None own.attempt) slot
      (where_true-there (is_running own.phase) outcomes slot e) in
      subst Raises (sym made.2) (outcome-raises live runs made.0)

  -- ---- all steps

  made : (o : Option SlotState) (e : Effect) → option_map of_slot o ≡ Some e
      → ((x : SlotState) → o ≡ Some x → Raises x) → Raises e.slot × (e.items ≡ None)
  made o e h raises =
      let slot = map-some of_slot o e h in
      (subst (λ (x : Effect). Raises x.slot) (sym slot.2) (raises slot.0 slot.1), ap (λ (x : Effect). x.items) slot.2)

  no-inputs : (kind : Bool) (m : LiteralMap) → kind ≡ false → inputs_when kind plan v.state i p ≡ Some m → ⊥
  no-inputs kind m none e =
      false≢true (sym none ∙ (and_parts kind (is_ready plan v.state i)
      (where_true-test (kind && is_ready plan v.state i) (value_in (inputs_of_node plan v.state p None)) m e)).0)

  not-workflow : is_workflow n ≡ false
  not-workflow = ap is_workflow_target (its plan f outer i n there).2

  not-branch : is_branch n ≡ false
  not-branch = ap is_branch_target (its plan f outer i n there).2

  no-closing : (slot : SlotState) → closed_node_slot plan v.state i p ≡ Some slot → ⊥
  no-closing slot e =
      let none : closed_node_slot plan v.state i p ≡ where_true (is_running own.phase) None =
      let at = (its plan f outer i n there).2 in rw at refl in
      none-some slot (where_true-there (is_running own.phase) None slot (sym none ∙ e))

  by-step : (entries : List Entry) (st : Step) (e : Effect) → is_final own.phase ≡ false
      → node_effect plan v entries i p st ≡ Some e → Raises e.slot × (e.items ≡ None)
  by-step entries step.Begin e live h =
      made (begun_slot plan v.state i p) e h (λ x is.
      let at = map-some (λ inputs. record own { phase = phase.Running; inputs = Some inputs })
      (inputs_when (is_workflow n) plan v.state i p) x is in
      absurd (no-inputs (is_workflow n) at.0 not-workflow at.1))
  by-step entries step.Queue e live h = made (queued_slot plan v.state i p) e h queued-raises
  by-step entries (step.Choose case) e live h =
      made (chosen_slot plan v.state i p case) e h (λ x is.
      let choice = option_and_then-there _ (option_and_then (λ inputs. choice_of inputs n)
      (inputs_when (is_branch n) plan v.state i p)) x is in
      let at = option_and_then-there (λ inputs. choice_of inputs n) (inputs_when (is_branch n) plan v.state i p)
      choice.0 choice.1 in
      absurd (no-inputs (is_branch n) at.0 not-branch at.1))
  by-step entries step.NoCase e live h =
      made (no_case_slot plan v.state i p) e h (λ x is.
      let at = option_and_then-there _ (inputs_when (is_branch n) plan v.state i p) x is in
      absurd (no-inputs (is_branch n) at.0 not-branch at.1))
  by-step entries step.InputFail e live h = made (input_failed_slot plan v.state i p) e h (input_failed-raises live)
  by-step entries step.Skip e live h = made (skipped_slot plan v.state i) e h (skipped-raises live)
  by-step entries (step.Run miss lease) e live h = run-raises entries miss lease e h
  by-step entries (step.Hit place) e live h = made (hit_slot plan v entries i p) e h (hit-raises live entries)
  by-step entries step.Retry e live h = made (retried_slot own) e h retried-raises
  by-step entries step.Settle e live h =
      let slot = settled_slot plan v p None (success_phase plan p) own in
      made (where_true (is_task n) slot) e h (λ x is. settled-raises live x (where_true-there (is_task n) slot x is))
  by-step entries (step.Stored place) e live h = made (stored_slot v entries i p) e h (stored-raises live entries)
  by-step entries step.Close e live h =
      made (closed_node_slot plan v.state i p) e h (λ x is. absurd (no-closing x is))
  by-step entries step.Abort e live h = made (aborted_slot own) e h (aborted-raises live)

  -- what a legal step makes of the node
  pub step-raises : (entries : List Entry) (st : Step) (e : Effect) → node_effect plan v entries i p st ≡ Some e
      → IsRaised plan (attempt_limit plan (outer_node f (i, n))) (own_state v.state i) e.slot × (e.items ≡ None)
  step-raises entries st e h = by-step entries st e (node_effect-not_final plan v entries i p st e h) h
