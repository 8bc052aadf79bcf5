use Rattle.std.proofs.Common.{◌≡◌, ◌≢◌, ◌+◌, sym, ap, ◌∙◌, arith}
use Rattle.fly_policy.specs.declared.retries.Next.TheVariants as next
use Rattle.fly_policy.specs.Retries.{next_of}
use Rattle.fly_eval.specs.Evaluation.{node_slot}
use Rattle.fly_eval.specs.Judging.{verdict_after}
use Rattle.fly_eval.proofs.AttemptSteps.{attempt-open, attempt-again, attempt-last, again-below, again-is, not-again}
use Rattle.fly_eval.proofs.attempts.run_attempts.Goals as goal

pub returns-in_default : goal.returns-in_default
returns-in_default c = λ p planned.
    let r = c.retries_of-retries.result in
    c.awaited.ensures
    ∙ sym (c.attempts.invariant.rest p planned
    ∙ attempt-open c.args.records.now.results.now (node_slot p) (r + 1) r c.attempts.attempt c.attempts.invariant.below
    (sym (c.in_default.ensures p planned)))

pub overflow_add-attempt : goal.overflow_add-attempt
overflow_add-attempt c =
    let r = c.retries_of-retries.result in
    let again : next_of c.in-Some.outcome.now c.attempts.attempt (r + 1) ≡ next.Again =
    sym c.next_after-next.ensures ∙ again-is c.next_after-next.result (sym c.is_again.ensures ∙ c.if-is_again.true) in
    omega (arith, again-below c.in-Some.outcome.now c.attempts.attempt (r + 1) again)

pub attempts-preserved : goal.attempts-preserved
attempts-preserved c =
    let r = c.retries_of-retries.result in
    let again : next_of c.in-Some.outcome.now c.attempts.attempt (r + 1) ≡ next.Again =
    sym c.next_after-next.ensures ∙ again-is c.next_after-next.result (sym c.is_again.ensures ∙ c.if-is_again.true) in
    let lt = again-below c.in-Some.outcome.now c.attempts.attempt (r + 1) again in
    record {
      below = omega (arith, lt);
      rest = λ p planned.
          c.attempts.invariant.rest p planned
          ∙ attempt-again c.args.records.now.results.now (node_slot p) (r + 1) r c.attempts.attempt c.in-Some.outcome.now
          c.attempts.invariant.below (sym (c.in-Some.ensures p planned)) again;
    }

pub returns-else-is_again : goal.returns-else-is_again
returns-else-is_again c = λ p planned.
    let r = c.retries_of-retries.result in
    let o = c.in-Some.outcome.now in
    let follows = c.next_after-next.ensures in
    let other : next_of o c.attempts.attempt (r + 1) ≢ next.Again =
    λ e. not-again c.next_after-next.result (sym c.is_again.ensures ∙ c.if-is_again.false) (follows ∙ e) in
    let v = c.in_ok-verdict_after.ensures ∙ ap (verdict_after o) follows in
    (λ k. record { verdict = v k; count = c.attempts.attempt + 1 })
    ∙ sym (c.attempts.invariant.rest p planned
    ∙ attempt-last c.args.records.now.results.now (node_slot p) (r + 1) r c.attempts.attempt o c.attempts.invariant.below
    (sym (c.in-Some.ensures p planned)) other)
