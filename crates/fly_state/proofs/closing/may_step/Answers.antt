use Rattle.std.proofs.Common.{[], not, ◌&&◌, ap, sym, ◌∙◌}
use Rattle.fly_state.specs.States.{is_broken}
use Rattle.fly_state.proofs.MoveLemmas.{steps-elsewhere}
use Rattle.fly_state.proofs.OuterPlans.{going_on-outer}
use Rattle.fly_state.proofs.closing.may_step.Goals as goal

pub returns-in_default : goal.returns-in_default
returns-in_default c =
    let plan = c.args.plan.now in
    let s = c.args.state.now in
    ap not c.is_broken-in_default.ensures
    ∙ sym (steps-elsewhere plan s c.args.step c.in_default.not-Abort
    ∙ ap (λ b. b && not (is_broken plan s []))
    (going_on-outer plan c.primary-primary.result.now c.primary-primary.ensures s))
