use Rattle.std.proofs.Common.{length, sym, ◌∙◌, arith, below_more}
use Rattle.fly_state.specs.Closing.{rests}
use Rattle.fly_state.proofs.Ranges.{all-fails, all-from}
use Rattle.fly_state.proofs.SettledLemmas.{settled-rests}
use Rattle.fly_state.proofs.closing.is_settled.Goals as goal

pub returns-then-not-is_at_rest : goal.returns-then-not-is_at_rest
returns-then-not-is_at_rest c =
    let plan = c.args.plan.now in
    let s = c.args.state.now in
    sym (settled-rests plan c.primary-primary.result.now c.primary-primary.ensures
    c.order-order.result.now c.order-order.ensures s
    ∙ all-fails (rests plan s) (length plan.nodes) c.loop-number.number
    (omega (arith, c.len-number-end.ensures, c.loop-number-test.true))
    (sym c.is_at_rest.ensures ∙ c.if-not-is_at_rest.true))

pub loop-number-preserved : goal.loop-number-preserved
loop-number-preserved c =
    below_more _ _ c.loop-number.invariant (sym c.is_at_rest.ensures ∙ c.if-not-is_at_rest.false)

pub returns : goal.returns
returns c =
    let plan = c.args.plan.now in
    let s = c.args.state.now in
    sym (settled-rests plan c.primary-primary.result.now c.primary-primary.ensures
    c.order-order.result.now c.order-order.ensures s
    ∙ all-from (rests plan s) 0 (length plan.nodes) (λ v above below.
    c.loop-number.invariant v (omega (arith, c.len-number-end.ensures, c.loop-number-test.false))))
