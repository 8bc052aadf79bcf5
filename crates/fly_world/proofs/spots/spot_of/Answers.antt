use Rattle.std.proofs.Common.{sym, ◌∙◌, ap}
use Rattle.fly_state.specs.Plans.{number_of}
use Rattle.fly_world.proofs.FoundSpots.{spot_of-numbers}
use Rattle.fly_world.proofs.spots.spot_of.Goals as goal

pub returns-in-Some-node_at : goal.returns-in-Some-node_at
returns-in-Some-node_at c =
    let s = c.args.store.now in
    spot_of-numbers s.plan s.world c.args.exec.now c.args.path.now c.in-Some.execution c.in-Some-node_at.node
    (sym c.number_of.ensures ∙ c.in-Some.is)
    (ap (λ p. number_of p c.args.path.now) (sym c.plan.ensures) ∙ sym c.node_at.ensures ∙ c.in-Some-node_at.is)
