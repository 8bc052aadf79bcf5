use Rattle.std.specs.Int.Signed.{≤ℤ_refl}
use Rattle.fly_world.proofs.LaunchLemmas.{never-falls}
use Rattle.fly_world.proofs.laws.moments_never_fall.Goals as goal

pub returns : goal.returns
returns c plan w new entries leads = never-falls w.moment plan w new entries leads (≤ℤ_refl w.moment)
