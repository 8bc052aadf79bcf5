use Rattle.fly_world.proofs.WorldLemmas.{begun_legal}
use Rattle.fly_world.proofs.world.World.begin.Goals as goal

pub invariant_of-result : goal.invariant_of-result
invariant_of-result c =
    rw (c.push.ensures, c.in_ok-reserve.ensures.ok, c.in_ok-store.ensures) (begun_legal c.args.plan.now c.args.closure)
