-- What the attempts of a slot come to, where all but the last one call for another.
use Rattle.std.proofs.Common.{◌≡◌, ℕ, zero, suc, ◌+◌, ◌-◌, ◌<◌, Bool, true, false, if◌then◌else◌, nat_lt, Some, refl, sym, ◌∙◌, ap, arith, ⊎_elim}
use Rattle.std.proofs.lemmas.Bool.{cases_lt, le-ltb, false≢true}
use Rattle.fly_policy.specs.declared.outcome.Outcome.{Outcome}
use Rattle.fly_policy.specs.declared.outcome.Outcome.TheVariants as outcome
use Rattle.fly_policy.specs.declared.retries.Next.{Next}
use Rattle.fly_policy.specs.declared.retries.Next.TheVariants as next
use Rattle.fly_policy.specs.Retries.{next_of}
use Rattle.fly_docs.specs.Plans.{PlanNode}
use Rattle.fly_state.specs.Plans.{RunPlan}
use Rattle.fly_state.specs.Moves.{attempt_limit}
use Rattle.fly_eval.specs.declared.results.Results.{Results}
use Rattle.fly_eval.specs.Results.{Slot, result_of}
use Rattle.fly_eval.specs.Attempts.{Attempts, after_outcome, attempts_from, attempts_of}
use Rattle.fly_agreement.specs.Agreement.{AreTriedAgain}

abbrev is_again : Next → Bool
is_again next.Again = true
is_again _ = false

if-again : (x : Next) (a b : ℕ) → is_again x ≡ false → (if nat_lt a b then next.Again else x) ≡ next.Again → a < b
if-again x a b other e =
    ⊎_elim (λ lt. lt)
    (λ ge. absurd (false≢true (sym other ∙ ap is_again (sym (ap (λ c. if c then next.Again else x) (le-ltb a b ge)) ∙ e))))
    (cases_lt a b)

-- another attempt is within the limit
again-within : (o : Outcome) (k limit : ℕ) → next_of o k limit ≡ next.Again → k + 1 < limit
again-within (outcome.Succeeded outputs) k limit e = absurd (false≢true (ap is_again e))
again-within (outcome.Recoverable code message) k limit e = if-again next.Failed (k + 1) limit refl e
again-within (outcome.Fatal code message) k limit e = absurd (false≢true (ap is_again e))
again-within outcome.TimedOut k limit e = if-again next.TimedOut (k + 1) limit refl e

module _ (plan : RunPlan) (results : Results) (p : PlanNode) (at : Slot) where
  abbrev limit : ℕ
  limit = attempt_limit plan p

  from-one : (n k : ℕ) (o : Outcome) → result_of results at k ≡ Some o
      → attempts_from (suc n) results at limit k ≡ after_outcome k o (next_of o k limit) (attempts_from n results at limit (k + 1))
  unfolding attempts_from
  from-one n k o is = rw is refl

  -- the attempts come to this number, where those before it all call for another
  reached : (k : ℕ) → AreTriedAgain plan results p at k
      → (k < limit) × (attempts_of results at limit ≡ attempts_from (limit - k) results at limit k)
  reached zero again =
      let all : limit ≡ limit - 0 = omega arith in (omega arith, ap (λ n. attempts_from n results at limit 0) all)
  reached (suc k) again =
      let before = reached k (λ j lt. again j (omega arith)) in
      let last = again k (omega arith) in
      let within : k + 1 < limit = again-within last.0 k limit last.2 in
      let one : limit - k ≡ suc (limit - suc k) = omega arith in
      let number : k + 1 ≡ suc k = omega arith in (
        omega arith,
        before.1
            ∙ ap (λ n. attempts_from n results at limit k) one
            ∙ from-one (limit - suc k) k last.0 last.1
            ∙ ap (λ x. after_outcome k last.0 x (attempts_from (limit - suc k) results at limit (k + 1))) last.2
            ∙ ap (λ j. attempts_from (limit - suc k) results at limit j) number,
      )

  -- the attempt of this number is the last one that has a result, or calls for another
  pub ended : (k : ℕ) (o : Outcome) → AreTriedAgain plan results p at k → result_of results at k ≡ Some o
      → (more : Attempts) × (attempts_of results at limit ≡ after_outcome k o (next_of o k limit) more)
  ended k o again is =
      let before = reached k again in
      let within : k < limit = before.0 in
      let one : limit - k ≡ suc (limit - suc k) = omega arith in (
        attempts_from (limit - suc k) results at limit (k + 1),
        before.1 ∙ ap (λ n. attempts_from n results at limit k) one ∙ from-one (limit - suc k) k o is,
      )
