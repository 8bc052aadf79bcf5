use Rattle.fly_state.proofs.OuterTypes.{known-types}
use Rattle.fly_state.proofs.steps.is_step.Goals as goal

pub is_node_step-requires-clause-known : goal.is_node_step-requires-clause-known
is_node_step-requires-clause-known c =
    known-types c.args.p.now c.primary.result.now c.primary.ensures c.args.v.now.state c.requires.of_plan.state
