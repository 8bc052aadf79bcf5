use Rattle.std.proofs.Common.{length, sym, ◌∙◌, ap, arith}
use Rattle.fly_state.specs.States.{phase_of, is_failure}
use Rattle.fly_state.proofs.OuterPlans.{failure-outer}
use Rattle.fly_state.proofs.Ranges.{any-at, any-none}
use Rattle.fly_state.proofs.closing.has_failure.Goals as goal

pub returns-then-is_failure : goal.returns-then-is_failure
returns-then-is_failure c =
    let plan = c.args.plan.now in
    let s = c.args.state.now in
    sym (failure-outer plan c.primary-primary.result.now c.primary-primary.ensures s
    ∙ any-at (λ i. is_failure (phase_of s i)) (length plan.nodes) c.loop-number.number
    (omega (arith, c.len-number-end.ensures, c.loop-number-test.true))
    (ap is_failure (sym c.phase_at.ensures) ∙ sym c.is_failure.ensures ∙ c.if-is_failure.true))

pub returns : goal.returns
returns c =
    let plan = c.args.plan.now in
    let s = c.args.state.now in
    sym (failure-outer plan c.primary-primary.result.now c.primary-primary.ensures s
    ∙ any-none (λ i. is_failure (phase_of s i)) 0 (length plan.nodes) (λ v above below.
    c.loop-number.invariant v (omega (arith, c.len-number-end.ensures, c.loop-number-test.false))))
