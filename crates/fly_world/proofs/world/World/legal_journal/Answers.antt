use Rattle.fly_world.proofs.world.World.legal_journal.Goals as goal

pub returns : goal.returns
returns c = rw (← c.self.view_is) c.self.invariant
