-- The root of a plan of task nodes closes with evaluation's verdict, where the state in which it closes agrees.
use Rattle.std.proofs.Common.{◌≡◌, ℕ, zero, suc, ◌+◌, ◌<◌, ◌≤◌, Bool, true, false, not, ◌||◌, ◌&&◌, if◌then◌else◌, List, [], ◌∷◌, map, length, codes, bytes_eq, Option, Some, None, option_and_then, option_to_list, Ok, Err, refl, sym, ◌∙◌, ap, subst, arith, ⊎_elim}
use Rattle.std.specs.List.{list_any, range_with_len}
use Rattle.std.proofs.lemmas.Bool.{and_parts, and_from, cases_Bool, false≢true, true≢false, or_cases, or_left, or_right}
use Rattle.std.proofs.lemmas.Option.{none-some, same_Some, slice_get_within}
use Rattle.fly_types.specs.declared.text.Text.{Text}
use Rattle.fly_types.specs.declared.literals.LiteralMap.{LiteralMap}
use Rattle.fly_docs.specs.declared.workflow.Workflow.{Workflow}
use Rattle.fly_docs.specs.Bindings.{sources_of}
use Rattle.fly_docs.specs.Lookups.{primary_of}
use Rattle.fly_docs.specs.Names.{start_node}
use Rattle.fly_docs.specs.Plans.{PlanNode}
use Rattle.fly_docs.specs.SlotInputs as docs
use Rattle.fly_docs.specs.SlotInputs.{Taken, workflow_outputs}
use Rattle.fly_rules.specs.Standing.{Standing, waiting, blocked, skipped, ready, is_blocked_standing}
use Rattle.fly_state.specs.declared.phase.Phase.{Phase}
use Rattle.fly_state.specs.declared.phase.Phase.TheVariants as phase
use Rattle.fly_state.specs.declared.slots.SlotState.{SlotState}
use Rattle.fly_state.specs.declared.slots.ExecState.{ExecState}
use Rattle.fly_state.specs.Moves.{is_succeeding, failed_slot, succeeded_slot, has_failure, misses_output, slot_with_outputs, closed_instance_slot}
use Rattle.fly_state.specs.OfPlan.{is_aborted}
use Rattle.fly_state.specs.PlanTables.{IsOuterPlan}
use Rattle.fly_state.specs.Plans.{RunPlan, number_in, nodes_in}
use Rattle.fly_state.specs.Standing.{standing_of, is_at_rest, is_settled}
use Rattle.fly_state.specs.States as state_of
use Rattle.fly_state.specs.States.{own_state, phase_of, is_final, is_failure, is_skipped, is_not_yet_started, is_succeeded, is_broken}
use Rattle.fly_state.proofs.FinalLemmas.{where_true-test, where_true-there, option_and_then-there}
use Rattle.fly_state.proofs.OuterNodes.{numbered-node}
use Rattle.fly_state.proofs.OuterPlans.{all-nodes, any-node, failure-outer, broken-outer, count-outer}
use Rattle.fly_state.proofs.Ranges.{all-at, any-none}
use Rattle.fly_eval.specs.declared.verdict.Verdict.{Verdict}
use Rattle.fly_eval.specs.declared.verdict.Verdict.TheVariants as verdict
use Rattle.fly_eval.specs.declared.results.Results.{Results}
use Rattle.fly_eval.specs.declared.results.Hits.{Hits}
use Rattle.fly_eval.specs.Evaluation as eval
use Rattle.fly_eval.specs.Evaluation.{Sight, is_pending, by_outputs, instance_verdict, verdict_in_instance, whole_sight, root_verdict}
use Rattle.fly_eval.proofs.KnownSame.{workflow_outputs-same}
use Rattle.fly_agreement.specs.Agreement.{SucceedsWith, TellsIn, TellsVerdict, Agrees}
use Rattle.fly_eval.proofs.Points.{node-there}
use Rattle.fly_agreement.proofs.StandingSeen.{if-same, option-same, tells, unaborted, blocked-verdict}

-- ---- tests of numbers and lists

any-map : {X Y : Type 0} (q : Y → Bool) (f : X → Y) (xs : List X) → list_any q (map f xs) ≡ list_any (λ x. q (f x)) xs
any-map q f [] = refl
any-map q f (x ∷ xs) = ap (λ b. q (f x) || b) (any-map q f xs)

any-alike : (p q : ℕ → Bool) (k n : ℕ) → ((v : ℕ) → k ≤ v → v < k + n → p v ≡ q v)
    → list_any p (range_with_len k n) ≡ list_any q (range_with_len k n)
any-alike p q k zero same = refl
any-alike p q k (suc n) same =
    let here : p k ≡ q k = same k (omega arith) (omega arith) in
    let behind : list_any p (range_with_len (k + 1) n) ≡ list_any q (range_with_len (k + 1) n) =
    any-alike p q (k + 1) n (λ v above below. same v (omega arith) (omega arith)) in
    λ i. here i || behind i

any-more : (p q : ℕ → Bool) (k n : ℕ) → ((v : ℕ) → k ≤ v → v < k + n → p v ≡ true → q v ≡ true)
    → list_any p (range_with_len k n) ≡ true → list_any q (range_with_len k n) ≡ true
any-more p q k zero more e = absurd (false≢true e)
any-more p q k (suc n) more e =
    ⊎_elim (λ here. or_left (q k) (list_any q (range_with_len (k + 1) n)) (more k (omega arith) (omega arith) here))
    (λ behind.
    or_right (q k) (list_any q (range_with_len (k + 1) n))
    (any-more p q (k + 1) n (λ v above below. more v (omega arith) (omega arith)) behind))
    (or_cases (p k) (list_any p (range_with_len (k + 1) n)) e)

any-option : (p q : ℕ → Bool) (o : Option ℕ) → ((j : ℕ) → o ≡ Some j → p j ≡ q j) → list_any p (option_to_list o) ≡ list_any q (option_to_list o)
any-option p q None same = refl
any-option p q (Some j) same = ap (λ b. b || false) (same j refl)

-- ---- nodes at rest

-- what is told of a node is told by its verdict
record IsTold (f : Phase) (slot : SlotState) (v : Verdict) : Type 0 where
  pending : is_pending v ≡ false
  failure : eval.is_failure v ≡ is_failure f
  skips : eval.is_skipped v ≡ is_skipped f
  outputs : eval.outputs_in v ≡ (if is_succeeded f then slot.outputs else None)

at-rest : (f : Phase) (x : Standing) (slot : SlotState) (v : Verdict) → TellsIn f slot v → is_aborted f ≡ false
    → is_final f || (is_not_yet_started f && is_blocked_standing x) ≡ true → (x ≡ blocked → v ≡ verdict.Blocked) → IsTold f slot v
at-rest phase.Succeeded x slot v says whole rest blocks = record {
  pending = ap is_pending says.2;
  failure = ap eval.is_failure says.2;
  skips = ap eval.is_skipped says.2;
  outputs = ap eval.outputs_in says.2 ∙ sym says.1;
}
at-rest phase.Failed x slot v says whole rest blocks = record {
  pending = ap is_pending says.2;
  failure = ap eval.is_failure says.2;
  skips = ap eval.is_skipped says.2;
  outputs = ap eval.outputs_in says.2;
}
at-rest phase.TimedOut x slot v says whole rest blocks = record {
  pending = ap is_pending says.1;
  failure = ap eval.is_failure says.1;
  skips = ap eval.is_skipped says.1;
  outputs = ap eval.outputs_in says.1;
}
at-rest phase.Skipped x slot v says whole rest blocks = record {
  pending = ap is_pending says;
  failure = ap eval.is_failure says;
  skips = ap eval.is_skipped says;
  outputs = ap eval.outputs_in says;
}
at-rest phase.NotYetStarted blocked slot v says whole rest blocks =
    let is = blocks refl in record {
      pending = ap is_pending is;
      failure = ap eval.is_failure is;
      skips = ap eval.is_skipped is;
      outputs = ap eval.outputs_in is;
    }
at-rest phase.NotYetStarted waiting slot v says whole rest blocks = absurd (false≢true rest)
at-rest phase.NotYetStarted skipped slot v says whole rest blocks = absurd (false≢true rest)
at-rest phase.NotYetStarted ready slot v says whole rest blocks = absurd (false≢true rest)
at-rest phase.Aborted x slot v says whole rest blocks = absurd (true≢false whole)
at-rest phase.Queued x slot v says whole rest blocks = absurd (false≢true rest)
at-rest phase.Running x slot v says whole rest blocks = absurd (false≢true rest)
at-rest phase.RetryableFailure x slot v says whole rest blocks = absurd (false≢true rest)
at-rest phase.Succeeding x slot v says whole rest blocks = absurd (false≢true rest)

failure-told : (f : Phase) (slot : SlotState) (v : Verdict) → TellsIn f slot v → is_failure f ≡ true → eval.is_failure v ≡ true
failure-told phase.Failed slot v says e = ap eval.is_failure says.2
failure-told phase.TimedOut slot v says e = ap eval.is_failure says.1
failure-told _ slot v says e = absurd (false≢true e)

-- an instance's verdict, by what is asked of its nodes
abbrev by_tests : Bool → Bool → Bool → Bool → Verdict → Verdict
by_tests fails_at_once is_open fails misses outputs =
    if fails_at_once then verdict.Failed (codes "NodeFailed")
    else (if is_open then verdict.Pending
    else (if fails then verdict.Failed (codes "NodeFailed") else (if misses then verdict.Failed (codes "OutputMissing") else outputs)))

opens : (plan : RunPlan) (w : Workflow) (inputs : LiteralMap) (sight : Sight) → primary_of plan.documents ≡ Some w
    → verdict_in_instance plan inputs sight [] ≡ instance_verdict plan inputs sight [] w
opens plan w inputs sight named = rw named refl

module _ (plan : RunPlan) (w : Workflow) (outer : IsOuterPlan plan w) (inputs : LiteralMap) (results : Results) (hits : Hits)
    (s : ExecState) (agrees : Agrees plan inputs results hits s) where
  abbrev sight : Sight
  sight = whole_sight plan inputs results hits

  abbrev verdicts : List Verdict
  verdicts = map (λ (at : ℕ × PlanNode). sight.verdict at.0) (nodes_in plan [])

  abbrev taken_seen : Taken LiteralMap
  taken_seen = workflow_outputs plan.documents w (eval.known_in plan inputs sight [])

  abbrev taken : Taken LiteralMap
  taken = workflow_outputs plan.documents w (state_of.known_in plan s [])

  root-opens : root_verdict plan inputs results hits
      ≡ by_tests (not w.fail_late && list_any eval.is_failure verdicts) (list_any is_pending verdicts) (list_any eval.is_failure verdicts)
      (eval.misses_output plan sight [] w) (by_outputs taken_seen)
  root-opens = opens plan w inputs sight outer.named

  any-verdict : (q : Verdict → Bool) → list_any q verdicts ≡ list_any (λ i. q (sight.verdict i)) (range_with_len 0 (length plan.nodes))
  any-verdict q = any-map q (λ (at : ℕ × PlanNode). sight.verdict at.0) (nodes_in plan []) ∙ any-node plan w outer (λ i. q (sight.verdict i))

  -- ---- once all nodes are at rest

  module _ (whole : is_broken plan s [] ≡ false) (settled : is_settled plan s [] ≡ true) where
    told-at : (i : ℕ) → i < length plan.nodes → IsTold (phase_of s i) (own_state s i) (sight.verdict i)
    told-at i small =
        let node = node-there plan w outer i small in
        let all = sym (all-nodes plan w outer (is_at_rest plan s)) ∙ settled in
        let rest = all-at (is_at_rest plan s) 0 (length plan.nodes) all i (omega arith) (omega arith) in
        at-rest (phase_of s i) (standing_of plan s i) (own_state s i) (sight.verdict i)
        (tells plan w outer inputs results hits s agrees i node.0 node.1)
        (unaborted plan w outer inputs results hits s agrees whole i node.0 node.1) rest
        (blocked-verdict plan w outer inputs results hits s agrees whole i node.0 node.1 small)

    told-numbered : (id : Text) (j : ℕ) → number_in plan [] id ≡ Some j → IsTold (phase_of s j) (own_state s j) (sight.verdict j)
    told-numbered id j is =
        let at = numbered-node plan w outer id j is in
        told-at j (omega (arith, slice_get_within w.nodes j at.0 at.1, count-outer plan w outer))

    failures : list_any eval.is_failure verdicts ≡ has_failure plan s []
    failures =
        any-verdict eval.is_failure
        ∙ any-alike (λ i. eval.is_failure (sight.verdict i)) (λ i. is_failure (phase_of s i)) 0 (length plan.nodes)
        (λ i above below. (told-at i (omega arith)).failure)
        ∙ sym (failure-outer plan w outer s)

    pendings : list_any is_pending verdicts ≡ false
    pendings =
        any-verdict is_pending
        ∙ any-none (λ i. is_pending (sight.verdict i)) 0 (length plan.nodes) (λ i above below. (told-at i (omega arith)).pending)

    misses : eval.misses_output plan sight [] w ≡ misses_output plan s [] w
    misses =
        let each : (id : Text) → list_any (λ i. eval.is_skipped (sight.verdict i)) (option_to_list (number_in plan [] id))
        ≡ list_any (λ i. is_skipped (phase_of s i)) (option_to_list (number_in plan [] id)) =
        λ id. any-option (λ i. eval.is_skipped (sight.verdict i)) (λ i. is_skipped (phase_of s i)) (number_in plan [] id)
        (λ j is. (told-numbered id j is).skips) in
        λ k. list_any (λ id. each id k) (sources_of w.outputs)

    known-same : (id : Text) → eval.known_in plan inputs sight [] id ≡ state_of.known_in plan s [] id
    known-same id =
        if-same (bytes_eq id start_node) (Some inputs) (option_and_then (λ j. eval.outputs_in (sight.verdict j)) (number_in plan [] id))
        s.root.inputs (option_and_then (λ j. state_of.outputs_in (own_state s j)) (number_in plan [] id))
        (λ start. sym agrees.root.inputs)
        (λ other.
        option-same (λ j. eval.outputs_in (sight.verdict j)) (λ j. state_of.outputs_in (own_state s j)) (number_in plan [] id)
        (λ j is. (told-numbered id j is).outputs))

    outputs-same : taken_seen ≡ taken
    outputs-same =
        workflow_outputs-same plan.documents w (eval.known_in plan inputs sight []) (state_of.known_in plan s []) (λ id has. known-same id)

    root-rested : root_verdict plan inputs results hits
        ≡ by_tests (not w.fail_late && has_failure plan s []) false (has_failure plan s []) (misses_output plan s [] w) (by_outputs taken)
    root-rested =
        root-opens
        ∙ (λ k. by_tests (not w.fail_late && failures k) (pendings k) (failures k) (misses k) (by_outputs (outputs-same k)))

  -- in a broken instance a node failed
  root-broken : not w.fail_late ≡ true → has_failure plan s [] ≡ true → root_verdict plan inputs results hits ≡ verdict.Failed (codes "NodeFailed")
  root-broken early fails =
      let some : list_any eval.is_failure verdicts ≡ true =
      any-verdict eval.is_failure
      ∙ any-more (λ i. is_failure (phase_of s i)) (λ i. eval.is_failure (sight.verdict i)) 0 (length plan.nodes)
      (λ i above below failed.
      let node = node-there plan w outer i (omega arith) in
      failure-told (phase_of s i) (own_state s i) (sight.verdict i) (tells plan w outer inputs results hits s agrees i node.0 node.1) failed)
      (sym (failure-outer plan w outer s) ∙ fails) in
      root-opens
      ∙ ap (λ b. by_tests b (list_any is_pending verdicts) (list_any eval.is_failure verdicts) (eval.misses_output plan sight [] w)
      (by_outputs taken_seen))
      (and_from (not w.fail_late) (list_any eval.is_failure verdicts) early some)

  -- ---- the slot of the root

  -- A slot that the root may have after a round, where this is its verdict.
  pub record IsFitRoot (v : Verdict) (slot : SlotState) : Type 0 where
    pub given : slot.inputs ≡ s.root.inputs
    pub succeeding : is_succeeding slot.phase ≡ true → SucceedsWith slot v
    pub final : TellsVerdict slot v

  pub root-own : IsFitRoot (root_verdict plan inputs results hits) s.root
  root-own = record { given = refl; succeeding = agrees.root.succeeding; final = agrees.root.final }

  root-failed : (code : Text) (v : Verdict) → v ≡ verdict.Failed code → IsFitRoot v (failed_slot s.root code)
  root-failed code v e = record { given = refl; succeeding = λ no. absurd (false≢true no); final = (code, refl, e) }

  root-given : (t : Taken LiteralMap) (slot : SlotState) → slot_with_outputs s.root t ≡ Some slot → IsFitRoot (by_outputs t) slot
  root-given (Ok m) slot e =
      subst (IsFitRoot (verdict.Succeeded m)) (same_Some (succeeded_slot s.root m) slot e)
      (record { given = refl; succeeding = λ no. absurd (false≢true no); final = (m, refl, refl) })
  root-given (Err (docs.enum_outside text)) slot e =
      subst (IsFitRoot (verdict.Failed (codes "EnumOutside"))) (same_Some (failed_slot s.root (codes "EnumOutside")) slot e)
      (root-failed (codes "EnumOutside") (verdict.Failed (codes "EnumOutside")) refl)
  root-given (Err _) slot e = absurd (none-some slot e)

  -- by whether a node failed, and whether an output is missing
  abbrev closed_by : Workflow → Bool → Bool → Option SlotState
  closed_by x failed missing =
      if failed then Some (failed_slot s.root (codes "NodeFailed"))
      else (if missing then Some (failed_slot s.root (codes "OutputMissing"))
      else slot_with_outputs s.root (workflow_outputs plan.documents x (state_of.known_in plan s [])))

  fails-with : (late missing : Bool) (o : Verdict) → by_tests (not late && true) false true missing o ≡ verdict.Failed (codes "NodeFailed")
  fails-with true missing o = refl
  fails-with false missing o = refl

  goes-with : (late missing : Bool) (o : Verdict)
      → by_tests (not late && false) false false missing o ≡ (if missing then verdict.Failed (codes "OutputMissing") else o)
  goes-with true missing o = refl
  goes-with false missing o = refl

  root-by : (late failed missing : Bool) (slot : SlotState) → closed_by w failed missing ≡ Some slot
      → IsFitRoot (by_tests (not late && failed) false failed missing (by_outputs taken)) slot
  root-by late true missing slot e =
      subst (IsFitRoot (by_tests (not late && true) false true missing (by_outputs taken))) (same_Some _ slot e)
      (root-failed (codes "NodeFailed") (by_tests (not late && true) false true missing (by_outputs taken))
      (fails-with late missing (by_outputs taken)))
  root-by late false true slot e =
      subst (IsFitRoot (by_tests (not late && false) false false true (by_outputs taken))) (same_Some _ slot e)
      (root-failed (codes "OutputMissing") (by_tests (not late && false) false false true (by_outputs taken))
      (goes-with late true (by_outputs taken)))
  root-by late false false slot e =
      subst (λ v. IsFitRoot v slot) (sym (goes-with late false (by_outputs taken))) (root-given taken slot e)

  -- a run that closes has its verdict
  pub root-closed : (slot : SlotState) → closed_instance_slot plan s [] ≡ Some slot → IsFitRoot (root_verdict plan inputs results hits) slot
  root-closed slot e =
      let settled = where_true-test (is_settled plan s []) _ slot e in
      let closes = option_and_then-there _ (primary_of plan.documents) slot (where_true-there _ _ slot e) in
      let same : closes.0 ≡ w = same_Some closes.0 w (sym closes.1 ∙ outer.named) in
      let closed : closed_by w (has_failure plan s []) (misses_output plan s [] w) ≡ Some slot =
      subst (λ (x : Workflow). closed_by x (has_failure plan s []) (misses_output plan s [] x) ≡ Some slot) same closes.2 in
      ⊎_elim (λ broken.
      let parts = and_parts (not w.fail_late) (has_failure plan s []) (sym (broken-outer plan w outer s) ∙ broken) in
      let failed : closed_by w true (misses_output plan s [] w) ≡ Some slot =
      ap (λ b. closed_by w b (misses_output plan s [] w)) (sym parts.1) ∙ closed in
      subst (IsFitRoot (root_verdict plan inputs results hits)) (same_Some (failed_slot s.root (codes "NodeFailed")) slot failed)
      (root-failed (codes "NodeFailed") (root_verdict plan inputs results hits) (root-broken parts.0 parts.1)))
      (λ whole.
      subst (λ v. IsFitRoot v slot) (sym (root-rested whole settled))
      (root-by w.fail_late (has_failure plan s []) (misses_output plan s [] w) slot closed))
      (cases_Bool (is_broken plan s []))
