use Rattle.std.proofs.Common.{[], not, ◌&&◌, ap, sym, ◌∙◌}
use Rattle.fly_state.specs.Moves.{has_failure}
use Rattle.fly_state.proofs.OuterPlans.{broken-outer}
use Rattle.fly_state.proofs.closing.is_broken.Goals as goal

pub returns-then-not-primary : goal.returns-then-not-primary
returns-then-not-primary c =
    c.has_failure.ensures
    ∙ sym (broken-outer c.args.plan.now c.primary.result.now c.primary.ensures c.args.state.now
    ∙ ap (λ b. not b && has_failure c.args.plan.now c.args.state.now []) c.if-not-primary.true)

pub returns-else-not-primary : goal.returns-else-not-primary
returns-else-not-primary c =
    ap not c.if-not-primary.false
    ∙ sym (broken-outer c.args.plan.now c.primary.result.now c.primary.ensures c.args.state.now
    ∙ ap (λ b. not b && has_failure c.args.plan.now c.args.state.now []) c.if-not-primary.false)
