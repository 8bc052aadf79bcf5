-- The attempts of a slot, one after another.
use Rattle.std.proofs.Common.{◌≡◌, ◌≢◌, ℕ, suc, ◌+◌, ◌-◌, ◌<◌, ◌≤◌, true, false, if◌then◌else◌, Some, None, refl, sym, ◌∙◌, ap, arith, ⊎_elim}
use Rattle.std.proofs.lemmas.Bool.{cases_lt, le-ltb, true≢false, false≢true}
use Rattle.fly_policy.specs.declared.outcome.Outcome.{Outcome}
use Rattle.fly_policy.specs.declared.outcome.Outcome.TheVariants as outcome
use Rattle.fly_policy.specs.declared.retries.Next.{Next}
use Rattle.fly_policy.specs.declared.retries.Next.TheVariants as next
use Rattle.fly_policy.specs.Retries.{next_of, retry_or}
use Rattle.fly_eval.specs.declared.verdict.Verdict.TheVariants as verdict
use Rattle.fly_eval.specs.declared.results.Results.{Results}
use Rattle.fly_eval.specs.Results.{Slot, result_of}
use Rattle.fly_eval.specs.Attempts.{Attempts, after_outcome, attempts_from}
use Rattle.fly_eval.specs.Judging.{verdict_after, is_again}

module _ (results : Results) (slot : Slot) (limit : ℕ) where
  pub open-one : (n k : ℕ) → result_of results slot k ≡ None → attempts_from (suc n) results slot limit k ≡ record { verdict = verdict.Pending; count = k + 1 }
  unfolding attempts_from
  open-one n k is = rw is refl

  pub ended-one : (n k : ℕ) (o : Outcome) → result_of results slot k ≡ Some o
      → attempts_from (suc n) results slot limit k ≡ after_outcome k o (next_of o k limit) (attempts_from n results slot limit (k + 1))
  unfolding attempts_from
  ended-one n k o is = rw is refl

  one-more : (retries k : ℕ) → k ≤ retries → retries + 1 - k ≡ suc (retries - k)
  one-more retries k le = omega arith

  -- without a result it is awaited
  pub attempt-open : (retries k : ℕ) → k ≤ retries → result_of results slot k ≡ None
      → attempts_from (retries + 1 - k) results slot limit k ≡ record { verdict = verdict.Pending; count = k + 1 }
  attempt-open retries k le is = ap (λ n. attempts_from n results slot limit k) (one-more retries k le) ∙ open-one (retries - k) k is

  attempt-ended : (retries k : ℕ) (o : Outcome) → k ≤ retries → result_of results slot k ≡ Some o
      → attempts_from (retries + 1 - k) results slot limit k
      ≡ after_outcome k o (next_of o k limit) (attempts_from (retries - k) results slot limit (k + 1))
  attempt-ended retries k o le is = ap (λ n. attempts_from n results slot limit k) (one-more retries k le) ∙ ended-one (retries - k) k o is

  -- it calls for another
  pub attempt-again : (retries k : ℕ) (o : Outcome) → k ≤ retries → result_of results slot k ≡ Some o → next_of o k limit ≡ next.Again
      → attempts_from (retries + 1 - k) results slot limit k ≡ attempts_from (retries + 1 - (k + 1)) results slot limit (k + 1)
  attempt-again retries k o le is again =
      let e : retries - k ≡ retries + 1 - (k + 1) = omega arith in
      attempt-ended retries k o le is
      ∙ ap (λ x. after_outcome k o x (attempts_from (retries - k) results slot limit (k + 1))) again
      ∙ ap (λ n. attempts_from n results slot limit (k + 1)) e

  last-one : (k : ℕ) (o : Outcome) (x : Next) (more : Attempts) → x ≢ next.Again
      → after_outcome k o x more ≡ record { verdict = verdict_after o x; count = k + 1 }
  last-one k o next.Done more other = refl
  last-one k o next.Failed more other = refl
  last-one k o next.TimedOut more other = refl
  last-one k o next.Again more other = absurd (other refl)

  -- it is the last
  pub attempt-last : (retries k : ℕ) (o : Outcome) → k ≤ retries → result_of results slot k ≡ Some o → next_of o k limit ≢ next.Again
      → attempts_from (retries + 1 - k) results slot limit k ≡ record { verdict = verdict_after o (next_of o k limit); count = k + 1 }
  attempt-last retries k o le is other =
      attempt-ended retries k o le is ∙ last-one k o (next_of o k limit) (attempts_from (retries - k) results slot limit (k + 1)) other

-- another may follow
retry-below : (other : Next) (k limit : ℕ) → other ≢ next.Again → retry_or other k limit ≡ next.Again → k + 1 < limit
retry-below other k limit apart is =
    ⊎_elim (λ lt. lt)
    (λ ge. absurd (apart (sym (ap (λ b. if b then next.Again else other) (le-ltb (k + 1) limit ge)) ∙ is)))
    (cases_lt (k + 1) limit)

pub again-below : (o : Outcome) (k limit : ℕ) → next_of o k limit ≡ next.Again → k + 1 < limit
again-below (outcome.Succeeded outputs) k limit is = cc
again-below (outcome.Recoverable code message) k limit is = retry-below next.Failed k limit (λ e. cc) is
again-below (outcome.Fatal code message) k limit is = cc
again-below outcome.TimedOut k limit is = retry-below next.TimedOut k limit (λ e. cc) is

pub again-is : (x : Next) → is_again x ≡ true → x ≡ next.Again
again-is next.Again e = refl
again-is next.Done e = absurd (false≢true e)
again-is next.Failed e = absurd (false≢true e)
again-is next.TimedOut e = absurd (false≢true e)

pub not-again : (x : Next) → is_again x ≡ false → x ≢ next.Again
not-again x e is = absurd (true≢false (sym (ap is_again is) ∙ e))
