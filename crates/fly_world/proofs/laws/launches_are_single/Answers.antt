use Rattle.fly_world.proofs.TellLemmas.{journal-single}
use Rattle.fly_world.proofs.laws.launches_are_single.Goals as goal

pub returns : goal.returns
returns c plan closure journal legal = journal-single plan closure journal legal
