use Rattle.fly_state.proofs.OuterTypes.{known-types}
use Rattle.fly_state.proofs.steps.can_run_close.Goals as goal

pub can_close-requires : goal.can_close-requires
can_close-requires c =
    known-types c.args.p.now c.primary.result.now c.primary.ensures c.args.v.now.state c.requires.state
