-- Over records of declared types a node that succeeds gives what it declares.
use Rattle.std.proofs.Common.{◌≡◌, ℕ, zero, suc, ◌+◌, Bool, true, false, if◌then◌else◌, ◌==◌, ◌&&◌, nat_lt, find, Option, Some, None, option_map, IfSome, refl, sym, ◌∙◌, ap, subst}
use Rattle.std.specs.List.{slice_get}
use Rattle.std.specs.Prelude.{Ok, Err}
use Rattle.std.proofs.lemmas.Bool.{and_parts}
use Rattle.std.proofs.lemmas.Option.{none-some, same_Some}
use Rattle.fly_types.specs.declared.literals.LiteralMap.{LiteralMap}
use Rattle.fly_docs.specs.declared.attempt_name.AttemptName.{AttemptName}
use Rattle.fly_docs.specs.declared.node.Node.{Node}
use Rattle.fly_docs.specs.declared.workflow.Workflow.{Workflow}
use Rattle.fly_docs.specs.Plans.{PlanNode}
use Rattle.fly_docs.specs.SlotInputs.{Taken}
use Rattle.fly_policy.specs.Outcome.{AreOutputs}
use Rattle.fly_policy.specs.declared.outcome.Outcome.{Outcome}
use Rattle.fly_policy.specs.declared.outcome.Outcome.TheVariants as outcome
use Rattle.fly_policy.specs.declared.retries.Next.TheVariants as next
use Rattle.fly_policy.specs.Retries.{next_of}
use Rattle.fly_rules.specs.Standing.{Standing, waiting, blocked, skipped, ready}
use Rattle.fly_state.specs.Moves.{is_cached, attempt_limit, same_item}
use Rattle.fly_state.specs.OfPlan.{output_variables}
use Rattle.fly_state.specs.PlanTables.{IsOuterPlan, outer_node}
use Rattle.fly_state.specs.Plans.{RunPlan, Path, same_path, number_of}
use Rattle.fly_state.proofs.AskedInputs.{found-in}
use Rattle.fly_state.proofs.OuterNodes.{number_of-own, planned-at, item_outputs-declared}
use Rattle.fly_eval.specs.declared.verdict.Verdict.{Verdict}
use Rattle.fly_eval.specs.declared.results.Results.{Results}
use Rattle.fly_eval.specs.declared.results.Hits.{Hits}
use Rattle.fly_eval.specs.Attempts.{Attempts, after_outcome, attempts_from}
use Rattle.fly_eval.specs.Evaluation.{by_hit, node_slot, task_attempts, verdict_by, whole_sight}
use Rattle.fly_eval.specs.Judging.{slot_of}
use Rattle.fly_eval.specs.Records.{AreTypedRecords}
use Rattle.fly_eval.specs.Results.{is_attempt_of, result_of, hit_of}
use Rattle.fly_eval.proofs.AttemptSteps.{open-one, ended-one}
use Rattle.fly_eval.proofs.PathNumbers.{same-path}
use Rattle.fly_eval.proofs.Sights.{verdict-is}

module _ (plan : RunPlan) (w : Workflow) (outer : IsOuterPlan plan w) (inputs : LiteralMap) (results : Results) (hits : Hits)
    (typed : AreTypedRecords plan inputs results hits) (i : ℕ) (n : Node) (there : slice_get w.nodes i ≡ Some n) where
  abbrev p : PlanNode
  p = outer_node w (i, n)

  abbrev AreGiven : LiteralMap → Type 0
  AreGiven outputs = AreOutputs (output_variables plan p) outputs

  -- what the verdict gives is declared
  abbrev IsGood : Verdict → Type 0
  IsGood v = IfSome (slot_of v).outputs AreGiven

  named : (path : Path) → same_path p.path path ≡ true → number_of plan path ≡ Some i
  named path same = ap (number_of plan) (sym (same-path p.path path same)) ∙ number_of-own plan w outer i n there

  result-typed : (k : ℕ) (o : Outcome) (outputs : LiteralMap) → result_of results (node_slot p) k ≡ Some o → o ≡ outcome.Succeeded outputs
      → AreGiven outputs
  result-typed k o outputs is gives = by (find test results.list) refl
    where
      test : AttemptName × Outcome → Bool
      test r = is_attempt_of (node_slot p) k r.0

      value : Option (AttemptName × Outcome) → Option Outcome
      value found = option_map (λ (r : AttemptName × Outcome). r.1) found

      by : (found : Option (AttemptName × Outcome)) → find test results.list ≡ found → AreGiven outputs
      by None e = absurd (none-some o (sym (ap value e) ∙ is))
      by (Some r) e =
          let held = found-in test results.list r e in
          let own : same_path p.path r.0.path ≡ true =
          (and_parts _ _ (and_parts (same_path p.path r.0.path && same_item None r.0.item) (k == r.0.attempt) held.1).0).0 in
          let outcome_is : r.1 ≡ outcome.Succeeded outputs = same_Some _ _ (sym (ap value e) ∙ is) ∙ gives in
          subst (λ vs. AreOutputs vs outputs) (item_outputs-declared plan w outer i n there)
          (typed.settled r i p outputs held.0 (named r.0.path own) (planned-at plan w outer i n there) outcome_is)

  outcome-typed : (k limit : ℕ) (o : Outcome) (more : Attempts) → ((outputs : LiteralMap) → o ≡ outcome.Succeeded outputs → AreGiven outputs)
      → IsGood more.verdict → IsGood (after_outcome k o (next_of o k limit) more).verdict
  outcome-typed k limit (outcome.Succeeded outputs) more own rest = own outputs refl
  outcome-typed k limit (outcome.Fatal code message) more own rest = tt
  outcome-typed k limit (outcome.Recoverable code message) more own rest = by (nat_lt (k + 1) limit)
    where
      by : (b : Bool) → IsGood (after_outcome k (outcome.Recoverable code message) (if b then next.Again else next.Failed) more).verdict
      by true = rest
      by false = tt
  outcome-typed k limit outcome.TimedOut more own rest = by (nat_lt (k + 1) limit)
    where
      by : (b : Bool) → IsGood (after_outcome k outcome.TimedOut (if b then next.Again else next.TimedOut) more).verdict
      by true = rest
      by false = tt

  from-typed : (m limit k : ℕ) → IsGood (attempts_from m results (node_slot p) limit k).verdict
  unfolding attempts_from
  from-typed zero limit k = tt
  from-typed (suc m) limit k = by (result_of results (node_slot p) k) refl (from-typed m limit (k + 1))
    where
      by : (o : Option Outcome) → result_of results (node_slot p) k ≡ o → IsGood (attempts_from m results (node_slot p) limit (k + 1)).verdict
          → IsGood (attempts_from (suc m) results (node_slot p) limit k).verdict
      by None is rest = subst (λ (a : Attempts). IsGood a.verdict) (sym (open-one results (node_slot p) limit m k is)) tt
      by (Some o) is rest =
          subst (λ (a : Attempts). IsGood a.verdict) (sym (ended-one results (node_slot p) limit m k o is))
          (outcome-typed k limit o (attempts_from m results (node_slot p) limit (k + 1)) (λ outputs gives. result-typed k o outputs is gives) rest)

  hit-typed : (outputs : LiteralMap) → hit_of hits p.path ≡ Some (Some outputs) → AreGiven outputs
  hit-typed outputs is = by (find test hits.list) refl
    where
      test : Path × Option LiteralMap → Bool
      test h = same_path p.path h.0

      value : Option (Path × Option LiteralMap) → Option (Option LiteralMap)
      value found = option_map (λ (h : Path × Option LiteralMap). h.1) found

      by : (found : Option (Path × Option LiteralMap)) → find test hits.list ≡ found → AreGiven outputs
      by None e = absurd (none-some (Some outputs) (sym (ap value e) ∙ is))
      by (Some h) e =
          let held = found-in test hits.list h e in
          typed.found h i p outputs held.0 (named h.0 held.1) (planned-at plan w outer i n there) (same_Some _ _ (sym (ap value e) ∙ is))

  hit-good : (o : Option (Option LiteralMap)) (run : Attempts) → hit_of hits p.path ≡ o → IsGood run.verdict → IsGood (by_hit o run).verdict
  hit-good None run is rest = tt
  hit-good (Some None) run is rest = rest
  hit-good (Some (Some outputs)) run is rest = hit-typed outputs is

  task-typed : IsGood (task_attempts plan results hits p).verdict
  task-typed = by (is_cached plan p)
    where
      run : Attempts
      run = attempts_from (attempt_limit plan p) results (node_slot p) (attempt_limit plan p) 0

      by : (b : Bool) → IsGood (if b then by_hit (hit_of hits p.path) run else run).verdict
      by true = hit-good (hit_of hits p.path) run refl (from-typed (attempt_limit plan p) (attempt_limit plan p) 0)
      by false = from-typed (attempt_limit plan p) (attempt_limit plan p) 0

  entered-typed : (x : Standing) (t : Taken LiteralMap) (v : Verdict) → IsGood v → IsGood (verdict_by x t (λ given. v))
  entered-typed waiting t v good = tt
  entered-typed blocked t v good = tt
  entered-typed skipped t v good = tt
  entered-typed ready (Err fault) v good = tt
  entered-typed ready (Ok given) v good = good

  pub verdict-typed : IsGood ((whole_sight plan inputs results hits).verdict i)
  verdict-typed =
      let e = (whole_sight plan inputs results hits).entering i in
      subst IsGood (sym (verdict-is plan w outer inputs results hits i n there))
      (entered-typed e.standing e.inputs (task_attempts plan results hits p).verdict task-typed)
