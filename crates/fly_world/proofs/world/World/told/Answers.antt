use Rattle.fly_world.proofs.SoundLemmas.{legal-sound}
use Rattle.fly_world.proofs.world.World.told.Goals as goal

pub view_read-requires : goal.view_read-requires
view_read-requires c =
    let s = c.self.inside.store in
    legal-sound s.plan _ c.self.inside.closure s.world.entries s.world s.spare
    (rw c.plan.ensures at c.primary-task_nodes.ensures) c.self.invariant
