use Rattle.fly_world.specs.Called.{entry_of}
use Rattle.fly_world.proofs.HandoutLemmas.{step-launched}
use Rattle.fly_world.proofs.world.World.perform.Goals as goal

pub told-requires : goal.told-requires
told-requires c =
    step-launched c.args.self.now.plan c.args.self.now.world c.take-reply.new.self.world
    (entry_of c.args.worker c.args.op c.take-reply.result) c.take-reply.ensures.step
