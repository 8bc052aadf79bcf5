-- The slots that a node may have after a round, in a plan of task nodes that are not cached: those that agree with evaluation.
use Rattle.std.proofs.Common.{◌≡◌, ◌⊎◌, ℕ, ◌+◌, ◌<◌, Bool, true, false, not, ◌||◌, ◌&&◌, if◌then◌else◌, nat_lt, List, [], ◌∷◌, length, Option, Some, None, Ok, Err, is_some, option_map, unwrap_or, refl, sym, ◌∙◌, ap, subst, arith, inl, inr, ⊎_elim}
use Rattle.std.specs.List.{slice_get}
use Rattle.std.proofs.lemmas.Bool.{cases_lt, and_parts, and_from, false≢true, true≢false, or_left}
use Rattle.std.proofs.lemmas.Option.{none-some, same_Some}
use Rattle.fly_types.specs.declared.text.Text.{Text}
use Rattle.fly_types.specs.declared.literals.LiteralMap.{LiteralMap}
use Rattle.fly_policy.specs.declared.outcome.Outcome.{Outcome}
use Rattle.fly_policy.specs.declared.outcome.Outcome.TheVariants as outcome
use Rattle.fly_policy.specs.declared.retries.Next.{Next}
use Rattle.fly_policy.specs.declared.retries.Next.TheVariants as next
use Rattle.fly_policy.specs.Retries.{next_of}
use Rattle.fly_cast.proofs.Options.{map-some}
use Rattle.fly_docs.specs.declared.node.Node.{Node}
use Rattle.fly_docs.specs.declared.workflow.Workflow.{Workflow}
use Rattle.fly_docs.specs.Plans.{PlanNode, is_array}
use Rattle.fly_docs.specs.SlotInputs.{Taken}
use Rattle.fly_rules.specs.Standing.{Standing, waiting, blocked, skipped, ready, is_skipped_standing}
use Rattle.fly_state.specs.declared.phase.Phase.{Phase}
use Rattle.fly_state.specs.declared.phase.Phase.TheVariants as phase
use Rattle.fly_state.specs.declared.slots.SlotState.{SlotState}
use Rattle.fly_state.specs.declared.effects.Effect.{Effect}
use Rattle.fly_state.specs.declared.entries.Entry.{Entry}
use Rattle.fly_state.specs.declared.view.View.{View}
use Rattle.fly_state.specs.Inputs.{inputs_of_node, value_in, fault_code}
use Rattle.fly_state.specs.Moves.{of_slot, where_true, is_queued, is_retryable, is_succeeding, is_ready, is_cached, is_stored, hit_content, may_run, outcome_in, attempt_limit, timeout_code, slot_after, settled_slot, retried_slot, run_slot, failed_slot, inputs_when, queued_slot, input_failed_slot, skipped_slot, run_task_effect, run_array_effect, run_effect, hit_slot, stored_slot, success_phase, aborted_slot}
use Rattle.fly_state.specs.OfPlan.{IsOfPlan}
use Rattle.fly_state.specs.PlanTables.{IsOuterPlan, outer_node}
use Rattle.fly_state.specs.Plans.{RunPlan, is_task, is_branch, is_task_target, task_of}
use Rattle.fly_state.specs.States.{own_state, is_not_yet_started, is_running, is_broken}
use Rattle.fly_state.specs.Standing.{standing_of}
use Rattle.fly_state.proofs.AskedInputs.{task-there}
use Rattle.fly_state.proofs.FinalLemmas.{where_true-test, where_true-there, option_and_then-there}
use Rattle.fly_state.proofs.OuterNodes.{planned-at, not-array}
use Rattle.fly_eval.specs.declared.verdict.Verdict.{Verdict}
use Rattle.fly_eval.specs.declared.verdict.Verdict.TheVariants as verdict
use Rattle.fly_eval.specs.declared.results.Results.{Results}
use Rattle.fly_eval.specs.declared.results.Hits.{Hits}
use Rattle.fly_eval.specs.Results.{result_of, hit_of}
use Rattle.fly_eval.specs.Attempts.{Attempts, after_outcome, attempts_of}
use Rattle.fly_eval.specs.Evaluation.{Entering, node_slot, by_hit, task_attempts, verdict_by, whole_sight}
use Rattle.fly_agreement.specs.Agreement.{given_inputs, given_choice, HasGivenInputs, AreTriedAgain, IsTriedAgain, SucceedsWith, TellsVerdict, is_under_way, AgreesNode, Agrees}
use Rattle.fly_agreement.specs.Laws.{HasNoCached, HasKnownResults}
use Rattle.fly_agreement.proofs.AttemptEnds.{ended}
use Rattle.fly_eval.proofs.Sights.{small, verdict-is}
use Rattle.fly_agreement.proofs.StandingSeen.{ready-standing, ready-inputs, skipped-verdict}

-- ---- what is taken

value-there : (t : Taken LiteralMap) (m : LiteralMap) → value_in t ≡ Some m → t ≡ Ok m
value-there (Ok x) m e = ap Ok (same_Some x m e)
value-there (Err fault) m e = absurd (none-some m e)

given-from : (e : Entering) (m : LiteralMap) → e.standing ≡ ready → e.inputs ≡ Ok m → given_inputs e ≡ Some m
given-from e m stands takes = λ k. given_inputs (record { standing = stands k; inputs = takes k })

-- a node that is given inputs comes to what it then runs
given-runs : (s : Standing) (t : Taken LiteralMap) (v : Verdict) (m : LiteralMap) → given_inputs (record { standing = s; inputs = t }) ≡ Some m
    → verdict_by s t (λ given. v) ≡ v
given-runs waiting t v m e = absurd (none-some m e)
given-runs blocked t v m e = absurd (none-some m e)
given-runs skipped t v m e = absurd (none-some m e)
given-runs ready (Ok x) v m e = refl
given-runs ready (Err fault) v m e = absurd (none-some m e)

-- a node whose inputs have a fault fails with its code
fault-fails : (t : Taken LiteralMap) (v : Verdict) (code : Text) → fault_code t ≡ Some code
    → verdict_by ready t (λ given. v) ≡ verdict.Failed code
fault-fails (Ok x) v code e = absurd (none-some code e)
fault-fails (Err fault) v code e = ap (λ o. verdict.Failed (unwrap_or o [])) e

-- ---- phases

queued-under_way : (f : Phase) → is_queued f ≡ true → is_under_way f ≡ true
queued-under_way phase.Queued e = refl
queued-under_way _ e = absurd (false≢true e)

running-under_way : (f : Phase) → is_running f ≡ true → is_under_way f ≡ true
running-under_way phase.Running e = refl
running-under_way _ e = absurd (false≢true e)

retryable-under_way : (f : Phase) → is_retryable f ≡ true → is_under_way f ≡ true
retryable-under_way phase.RetryableFailure e = refl
retryable-under_way _ e = absurd (false≢true e)

some-there : (o : Option LiteralMap) → is_some o ≡ true → (m : LiteralMap) × (o ≡ Some m)
some-there None e = absurd (false≢true e)
some-there (Some m) e = (m, refl)

-- a number up to another is below it or is it
below-or-last : (k last : ℕ) → k < last + 1 → (k < last) ⊎ (last ≡ k)
below-or-last k last before = ⊎_elim (λ lt. inl lt) (λ ge. inr (omega arith)) (cases_lt k last)

module _ (plan : RunPlan) (w : Workflow) (outer : IsOuterPlan plan w) (inputs : LiteralMap) (results : Results) (hits : Hits)
    (v : View) (of_plan : IsOfPlan plan v.state) (uncached : HasNoCached plan) (known : HasKnownResults plan v results)
    (agrees : Agrees plan inputs results hits v.state) (i : ℕ) (n : Node) (there : slice_get w.nodes i ≡ Some n) where
  abbrev pub p : PlanNode
  p = outer_node w (i, n)

  abbrev pub own : SlotState
  own = own_state v.state i

  abbrev pub entering : Entering
  entering = (whole_sight plan inputs results hits).entering i

  abbrev pub judged : Verdict
  judged = (whole_sight plan inputs results hits).verdict i

  node : AgreesNode plan results hits v.state i p entering judged
  node = agrees.nodes i p (planned-at plan w outer i n there)

  within : i < length plan.nodes
  within = small plan w outer inputs results hits i n there

  runs-task : is_task n ≡ true
  runs-task = ap is_task_target (task-there plan w outer i n there).2

  not-cached : is_cached plan p ≡ false
  not-cached = uncached i p (planned-at plan w outer i n there)

  -- A slot that the node may have after a round.
  pub record IsFit (slot : SlotState) : Type 0 where
    pub given : HasGivenInputs slot (given_inputs entering)
    pub choice : (case : ℕ) → slot.choice ≡ Some case → given_choice p entering ≡ Some case
    pub running : is_running slot.phase ≡ true → AreTriedAgain plan results p (node_slot p) slot.attempt
    pub retryable : is_retryable slot.phase ≡ true → AreTriedAgain plan results p (node_slot p) (slot.attempt + 1)
    pub succeeding : is_succeeding slot.phase ≡ true → SucceedsWith slot judged
    pub final : TellsVerdict slot judged
    pub has_inputs : is_under_way slot.phase ≡ true → is_some slot.inputs ≡ true

  -- the slot as it is
  pub fit-own : IsFit own
  fit-own = record {
    given = node.inputs;
    choice = node.choice;
    running = λ runs. node.running (and_from (is_task n) (is_running own.phase) runs-task runs);
    retryable = λ fails. node.retryable (and_from (is_task n) (is_retryable own.phase) runs-task fails);
    succeeding = node.succeeding;
    final = node.final;
    has_inputs = λ goes. node.has_inputs
        (and_from (is_task n || is_array n) (is_under_way own.phase) (or_left (is_task n) (is_array n) runs-task) goes);
  }

  -- one that came to its end, with this code
  fit-ended : (f : Phase) (code : Option Text) → is_under_way f ≡ false → TellsVerdict (record own { phase = f; code = code }) judged
      → IsFit (record own { phase = f; code = code })
  fit-ended f code ends tells = record {
    given = node.inputs;
    choice = node.choice;
    running = λ e. absurd (true≢false (sym (running-under_way f e) ∙ ends));
    retryable = λ e. absurd (true≢false (sym (retryable-under_way f e) ∙ ends));
    succeeding = λ e. absurd (true≢false (sym (ends-not f e) ∙ ends));
    final = tells;
    has_inputs = λ e. absurd (true≢false (sym e ∙ ends));
  }
    where
      ends-not : (g : Phase) → is_succeeding g ≡ true → is_under_way g ≡ true
      ends-not phase.Succeeding e = refl
      ends-not _ e = absurd (false≢true e)

  -- one that succeeded with these outputs
  fit-succeeded : (outputs : Option LiteralMap) → SucceedsWith (record own { phase = phase.Succeeded; outputs = outputs }) judged
      → IsFit (record own { phase = phase.Succeeded; outputs = outputs })
  fit-succeeded outputs gives = record {
    given = node.inputs;
    choice = node.choice;
    running = λ e. absurd (false≢true e);
    retryable = λ e. absurd (false≢true e);
    succeeding = λ e. absurd (false≢true e);
    final = gives;
    has_inputs = λ e. absurd (false≢true e);
  }

  -- one that runs at this attempt
  fit-running : (attempt : ℕ) → AreTriedAgain plan results p (node_slot p) attempt → is_under_way own.phase ≡ true
      → IsFit (record own { phase = phase.Running; attempt = attempt })
  fit-running attempt again goes = record {
    given = node.inputs;
    choice = node.choice;
    running = λ e. again;
    retryable = λ e. absurd (false≢true e);
    succeeding = λ e. absurd (false≢true e);
    final = tt;
    has_inputs = λ e. fit-own.has_inputs goes;
  }

  -- ---- nodes that are not yet started

  module _ (whole : is_broken plan v.state [] ≡ false) where
    pub fit-queued : (slot : SlotState) → queued_slot plan v.state i p ≡ Some slot → IsFit slot
    fit-queued slot e =
        let made = map-some (λ m. record own { phase = phase.Queued; inputs = Some m })
        (inputs_when (is_task n || is_array n) plan v.state i p) slot e in
        let wanted = inputs_of_node plan v.state p None in
        let test = (is_task n || is_array n) && is_ready plan v.state i in
        let go = (and_parts (is_task n || is_array n) (is_ready plan v.state i) (where_true-test test (value_in wanted) made.0 made.1)).1 in
        let takes = ready-inputs plan w outer inputs results hits v.state agrees whole i n there within of_plan go
        ∙ value-there wanted made.0 (where_true-there test (value_in wanted) made.0 made.1) in
        let stands = ready-standing plan w outer inputs results hits v.state agrees whole i n there within of_plan go in
        subst IsFit (sym made.2) (record {
          given = λ m is. given-from entering made.0 stands takes ∙ is;
          choice = node.choice;
          running = λ no. absurd (false≢true no);
          retryable = λ no. absurd (false≢true no);
          succeeding = λ no. absurd (false≢true no);
          final = tt;
          has_inputs = λ yes. refl;
        })

    pub fit-input_failed : (slot : SlotState) → input_failed_slot plan v.state i p ≡ Some slot → IsFit slot
    fit-input_failed slot e =
        let test = not (is_branch n) && is_ready plan v.state i in
        let wanted = inputs_of_node plan v.state p None in
        let go = (and_parts (not (is_branch n)) (is_ready plan v.state i)
        (where_true-test test (option_map (failed_slot own) (fault_code wanted)) slot e)).1 in
        let made = map-some (failed_slot own) (fault_code wanted) slot
        (where_true-there test (option_map (failed_slot own) (fault_code wanted)) slot e) in
        let takes = ready-inputs plan w outer inputs results hits v.state agrees whole i n there within of_plan go in
        let stands = ready-standing plan w outer inputs results hits v.state agrees whole i n there within of_plan go in
        let run = (task_attempts plan results hits p).verdict in
        subst IsFit (sym made.2) (fit-ended phase.Failed (Some made.0) refl (
          made.0,
          refl,
          verdict-is plan w outer inputs results hits i n there ∙ (λ k. verdict_by (stands k) (takes k) (λ given. run))
              ∙ fault-fails wanted run made.0 made.1,
        ))

    pub fit-skipped : (slot : SlotState) → skipped_slot plan v.state i ≡ Some slot → IsFit slot
    fit-skipped slot e =
        let skipped_own : SlotState = record own { phase = phase.Skipped } in
        let test = is_not_yet_started own.phase && is_skipped_standing (standing_of plan v.state i) in
        let skips = (and_parts (is_not_yet_started own.phase) (is_skipped_standing (standing_of plan v.state i))
        (where_true-test test (Some skipped_own) slot e)).1 in
        subst IsFit (same_Some skipped_own slot (where_true-there test (Some skipped_own) slot e))
        (fit-ended phase.Skipped own.code refl
        (skipped-verdict plan w outer inputs results hits v.state agrees whole i n there within skips))

  pub fit-aborted : (slot : SlotState) → aborted_slot own ≡ Some slot → IsFit slot
  fit-aborted slot e = subst IsFit (same_Some _ _ (where_true-there _ _ slot e)) (fit-ended phase.Aborted own.code refl tt)

  -- ---- nodes that run

  pub fit-run : (entries : List Entry) (miss lease : Option ℕ) (e : Effect) → run_effect plan v entries i p miss lease ≡ Some e
      → IsFit e.slot × (e.items ≡ None)
  fit-run entries miss lease e h =
      let way = λ (b : Bool). if b then run_array_effect plan v entries i p miss lease else run_task_effect plan v entries i p miss lease in
      let queued = where_true-test (is_queued own.phase) (way (is_array n)) e h in
      let ran : run_task_effect plan v entries i p miss lease ≡ Some e =
      sym (ap way (not-array plan w outer i n there)) ∙ where_true-there (is_queued own.phase) (way (is_array n)) e h in
      let task = option_and_then-there (λ t. where_true (may_run v p t miss lease entries) (Some (of_slot (run_slot own)))) (task_of plan p) e ran in
      let same : of_slot (run_slot own) ≡ e =
      same_Some _ _ (where_true-there (may_run v p task.0 miss lease entries) (Some (of_slot (run_slot own))) e task.2) in (
        subst (λ (x : Effect). IsFit x.slot) same (fit-running 0 (λ k before. absurd (omega arith)) (queued-under_way own.phase queued)),
        ap (λ (x : Effect). x.items) (sym same),
      )

  pub fit-retried : (slot : SlotState) → retried_slot own ≡ Some slot → IsFit slot
  fit-retried slot e =
      let next_slot : SlotState = record own { phase = phase.Running; attempt = own.attempt + 1 } in
      let again = where_true-test (is_retryable own.phase) (Some next_slot) slot e in
      subst IsFit (same_Some next_slot slot (where_true-there (is_retryable own.phase) (Some next_slot) slot e))
      (fit-running (own.attempt + 1) (fit-own.retryable again) (retryable-under_way own.phase again))

  pub fit-stored : (entries : List Entry) (slot : SlotState) → stored_slot v entries i p ≡ Some slot → IsFit slot
  fit-stored [] slot e = absurd (none-some slot e)
  fit-stored (entry ∷ []) slot e =
      let stored : SlotState = record own { phase = phase.Succeeded } in
      let test = is_succeeding own.phase && is_stored v p entry in
      let ends = (and_parts (is_succeeding own.phase) (is_stored v p entry) (where_true-test test (Some stored) slot e)).0 in
      subst IsFit (same_Some stored slot (where_true-there test (Some stored) slot e)) (fit-succeeded own.outputs (node.succeeding ends))
  fit-stored (a ∷ b ∷ entries) slot e = absurd (none-some slot e)

  pub no-hit : (entries : List Entry) (slot : SlotState) → hit_slot plan v entries i p ≡ Some slot → ⊥
  no-hit [] slot e = none-some slot e
  no-hit (entry ∷ []) slot e =
      let hit : LiteralMap → SlotState = λ content. record own { phase = phase.Succeeded; outputs = Some content } in
      let test = where_true-test (is_queued own.phase && is_cached plan p) (option_map hit (hit_content v p entry)) slot e in
      true≢false (sym (and_parts (is_queued own.phase) (is_cached plan p) test).1 ∙ not-cached)
  no-hit (a ∷ b ∷ entries) slot e = none-some slot e

  -- ---- outcomes

  module _ (runs : is_running own.phase ≡ true) where
    abbrev limit : ℕ
    limit = attempt_limit plan p

    again-before : AreTriedAgain plan results p (node_slot p) own.attempt
    again-before = fit-own.running runs

    -- evaluation gives it what its attempts come to
    judged-attempts : judged ≡ (attempts_of results (node_slot p) limit).verdict
    judged-attempts =
        let taken = some-there own.inputs (fit-own.has_inputs (running-under_way own.phase runs)) in
        let run = attempts_of results (node_slot p) limit in
        verdict-is plan w outer inputs results hits i n there
        ∙ given-runs entering.standing entering.inputs (task_attempts plan results hits p).verdict taken.0 (node.inputs taken.0 taken.1)
        ∙ ap (λ b. (if b then by_hit (hit_of hits p.path) run else run).verdict) not-cached

    fit-again : (o : Outcome) → result_of results (node_slot p) own.attempt ≡ Some o → next_of o own.attempt limit ≡ next.Again
        → IsFit (record own { phase = phase.RetryableFailure })
    fit-again o is again = record {
      given = node.inputs;
      choice = node.choice;
      running = λ e. absurd (false≢true e);
      retryable = λ e. one-more;
      succeeding = λ e. absurd (false≢true e);
      final = tt;
      has_inputs = λ e. fit-own.has_inputs (running-under_way own.phase runs);
    }
      where
        one-more : AreTriedAgain plan results p (node_slot p) (own.attempt + 1)
        one-more k before =
            ⊎_elim (λ earlier. again-before k earlier)
            (λ last. subst (λ j. IsTriedAgain plan results p (node_slot p) j) last (o, is, again)) (below-or-last k own.attempt before)

    fit-after : (o : Outcome) → result_of results (node_slot p) own.attempt ≡ Some o
        → IsFit (slot_after phase.Succeeded own o (next_of o own.attempt limit))
    fit-after o is =
        let end = ended plan results p (node_slot p) own.attempt o again-before is in
        by o is end.0 (judged-attempts ∙ ap (λ (a : Attempts). a.verdict) end.1)
      where
        failed : (code : Text) → judged ≡ verdict.Failed code → IsFit (record own { phase = phase.Failed; code = Some code })
        failed code e = fit-ended phase.Failed (Some code) refl (code, refl, e)

        retry : (x : Outcome) (other : Next) (more : Attempts) (b : Bool)
            → (b ≡ true → IsFit (record own { phase = phase.RetryableFailure }))
            → (judged ≡ (after_outcome own.attempt x other more).verdict → IsFit (slot_after phase.Succeeded own x other))
            → judged ≡ (after_outcome own.attempt x (if b then next.Again else other) more).verdict
            → IsFit (slot_after phase.Succeeded own x (if b then next.Again else other))
        retry x other more true again fit e = again refl
        retry x other more false again fit e = fit e

        by : (x : Outcome) → result_of results (node_slot p) own.attempt ≡ Some x → (more : Attempts)
            → judged ≡ (after_outcome own.attempt x (next_of x own.attempt limit) more).verdict
            → IsFit (slot_after phase.Succeeded own x (next_of x own.attempt limit))
        by (outcome.Succeeded outputs) found more e = fit-succeeded (Some outputs) (outputs, refl, e)
        by (outcome.Recoverable code message) found more e =
            retry (outcome.Recoverable code message) next.Failed more (nat_lt (own.attempt + 1) limit)
            (λ can. fit-again (outcome.Recoverable code message) found (ap (λ b. if b then next.Again else next.Failed) can))
            (λ ends. failed code ends) e
        by (outcome.Fatal code message) found more e = failed code e
        by outcome.TimedOut found more e =
            retry outcome.TimedOut next.TimedOut more (nat_lt (own.attempt + 1) limit)
            (λ can. fit-again outcome.TimedOut found (ap (λ b. if b then next.Again else next.TimedOut) can))
            (λ ends. fit-ended phase.TimedOut (Some timeout_code) refl (refl, ends)) e

  pub fit-settled : (slot : SlotState) → settled_slot plan v p None (success_phase plan p) own ≡ Some slot → IsFit slot
  fit-settled slot e =
      let limit = attempt_limit plan p in
      let after = λ (done : Phase) (o : Outcome). slot_after done own o (next_of o own.attempt limit) in
      let settles = λ (done : Phase). where_true (is_running own.phase) (option_map (after done) (outcome_in v p None own.attempt)) in
      let ends : settles phase.Succeeded ≡ Some slot = sym (ap (λ b. settles (if b then phase.Succeeding else phase.Succeeded)) not-cached) ∙ e in
      let outcomes = option_map (after phase.Succeeded) (outcome_in v p None own.attempt) in
      let runs = where_true-test (is_running own.phase) outcomes slot ends in
      let made = map-some (after phase.Succeeded) (outcome_in v p None own.attempt) slot
      (where_true-there (is_running own.phase) outcomes slot ends) in
      subst IsFit (sym made.2)
      (fit-after runs made.0 (known i p None own.attempt made.0 (planned-at plan w outer i n there) made.1))
