use Rattle.fly_world.specs.World.{empty_world}
use Rattle.fly_world.proofs.JournalLemmas.{one-world}
use Rattle.fly_world.proofs.laws.journals_leave_one_world.Goals as goal

pub returns : goal.returns
returns c plan closure journal w v first second = one-world plan empty_world w v journal first.leads second.leads
