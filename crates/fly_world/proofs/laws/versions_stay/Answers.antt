use Rattle.fly_world.proofs.TellLemmas.{versions-stay}
use Rattle.fly_world.proofs.laws.versions_stay.Goals as goal

pub returns : goal.returns
returns c plan w new entries number x leads there = versions-stay number x plan w new entries leads there
