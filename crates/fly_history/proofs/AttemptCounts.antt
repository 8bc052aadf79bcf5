-- An attempt before which each calls for another is among those of its slot.
use Rattle.std.proofs.Common.{◌≡◌, ℕ, zero, suc, ◌+◌, ◌<◌, ◌≤◌, Bool, true, false, if◌then◌else◌, nat_lt, Option, Some, None, refl, sym, ◌∙◌, ap, subst, arith, ⊎_elim}
use Rattle.std.proofs.lemmas.Bool.{cases_lt, le-ltb, false≢true}
use Rattle.fly_policy.specs.declared.outcome.Outcome.{Outcome}
use Rattle.fly_policy.specs.declared.outcome.Outcome.TheVariants as outcome
use Rattle.fly_policy.specs.declared.retries.Next.{Next}
use Rattle.fly_policy.specs.declared.retries.Next.TheVariants as next
use Rattle.fly_policy.specs.Retries.{next_of}
use Rattle.fly_docs.specs.Plans.{PlanNode}
use Rattle.fly_state.specs.Plans.{RunPlan}
use Rattle.fly_state.specs.Moves.{attempt_limit}
use Rattle.fly_eval.specs.declared.verdict.Verdict.TheVariants as verdict
use Rattle.fly_eval.specs.declared.results.Results.{Results}
use Rattle.fly_eval.specs.Results.{Slot, result_of}
use Rattle.fly_eval.specs.Attempts.{Attempts, after_outcome, attempts_from, attempts_of}
use Rattle.fly_agreement.specs.Agreement.{IsTriedAgain, AreTriedAgain}

-- ---- the limit

abbrev is_again : Next → Bool
is_again next.Again = true
is_again _ = false

if-again : (x : Next) (a b : ℕ) → is_again x ≡ false → (if nat_lt a b then next.Again else x) ≡ next.Again → a < b
if-again x a b other e =
    ⊎_elim (λ lt. lt)
    (λ ge. absurd (false≢true (sym other ∙ ap is_again
    (sym (ap (λ c. if c then next.Again else x) (le-ltb a b ge)) ∙ e))))
    (cases_lt a b)

-- another attempt is within the limit
again-within : (o : Outcome) (k limit : ℕ) → next_of o k limit ≡ next.Again → k + 1 < limit
again-within (outcome.Succeeded outputs) k limit e = absurd (false≢true (ap is_again e))
again-within (outcome.Recoverable code message) k limit e = if-again next.Failed (k + 1) limit refl e
again-within (outcome.Fatal code message) k limit e = absurd (false≢true (ap is_again e))
again-within outcome.TimedOut k limit e = if-again next.TimedOut (k + 1) limit refl e

-- ---- counts

outcome-counted : (k : ℕ) (o : Outcome) (x : Next) (more : Attempts) → k < more.count
    → k < (after_outcome k o x more).count
outcome-counted k o next.Done more lt = omega arith
outcome-counted k o next.Failed more lt = omega arith
outcome-counted k o next.TimedOut more lt = omega arith
outcome-counted k o next.Again more lt = lt

module _ (plan : RunPlan) (results : Results) (p : PlanNode) (at : Slot) where
  abbrev limit : ℕ
  limit = attempt_limit plan p

  -- the attempts from a number on, by its result
  from-none : (n k : ℕ) → result_of results at k ≡ None
      → attempts_from (suc n) results at limit k ≡ record { verdict = verdict.Pending; count = k + 1 }
  unfolding attempts_from
  from-none n k is = rw is refl

  from-some : (n k : ℕ) (o : Outcome) → result_of results at k ≡ Some o
      → attempts_from (suc n) results at limit k ≡ after_outcome k o (next_of o k limit)
      (attempts_from n results at limit (k + 1))
  unfolding attempts_from
  from-some n k o is = rw is refl

  -- the first of them is counted
  first-counted : (n k : ℕ) → k < (attempts_from n results at limit k).count
  unfolding attempts_from
  first-counted zero k = omega arith
  first-counted (suc n) k = by (result_of results at k) refl (first-counted n (k + 1))
    where
      by : (o : Option Outcome) → result_of results at k ≡ o → k + 1 < (attempts_from n results at limit (k + 1)).count
          → k < (attempts_from (suc n) results at limit k).count
      by None is behind = subst (λ (a : Attempts). k < a.count) (sym (from-none n k is)) (omega arith)
      by (Some o) is behind =
          subst (λ (a : Attempts). k < a.count) (sym (from-some n k o is))
          (outcome-counted k o (next_of o k limit) (attempts_from n results at limit (k + 1)) (omega arith))

  -- and so is each one before which all call for another, as far as there may be so many
  counted-from : (n j k : ℕ) → j ≤ k → k ≤ j + n → ((m : ℕ) → j ≤ m → m < k → IsTriedAgain plan results p at m)
      → k < (attempts_from n results at limit j).count
  counted-from zero j k le short again =
      let same : j ≡ k = omega arith in
      subst (λ m. m < (attempts_from 0 results at limit j).count) same (first-counted 0 j)
  counted-from (suc n) j k le short again =
      ⊎_elim
      (λ lt.
      let here = again j (omega arith) lt in
      let is : attempts_from (suc n) results at limit j ≡ attempts_from n results at limit (j + 1) =
      from-some n j here.0 here.1
      ∙ ap (λ x. after_outcome j here.0 x (attempts_from n results at limit (j + 1))) here.2 in
      let behind : k < (attempts_from n results at limit (j + 1)).count =
      counted-from n (j + 1) k (omega arith) (omega arith) (λ m from before. again m (omega arith) before) in
      subst (λ (a : Attempts). k < a.count) (sym is) behind)
      (λ ge.
      let same : j ≡ k = omega arith in
      subst (λ m. m < (attempts_from (suc n) results at limit j).count) same (first-counted (suc n) j))
      (cases_lt j k)

  pub attempt-counted : (k : ℕ) → AreTriedAgain plan results p at k → k < (attempts_of results at limit).count
  attempt-counted k again = counted-from limit 0 k (omega arith) (omega (arith, within k again))
      (λ m from before. again m before)
    where
      within : (j : ℕ) → AreTriedAgain plan results p at j → j ≤ limit
      within zero tried = omega arith
      within (suc j) tried =
          let last = tried j (omega arith) in
          let more : j + 1 < limit = again-within last.0 j limit last.2 in
          omega arith
