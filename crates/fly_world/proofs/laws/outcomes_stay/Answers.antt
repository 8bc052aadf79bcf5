use Rattle.fly_world.proofs.LaunchLemmas.{outcome-stays}
use Rattle.fly_world.proofs.laws.outcomes_stay.Goals as goal

pub returns : goal.returns
returns c plan w new entries name o leads h = outcome-stays name o plan w new entries leads h
