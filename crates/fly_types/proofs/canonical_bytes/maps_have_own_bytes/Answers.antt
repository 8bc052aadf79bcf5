use Rattle.fly_types.proofs.Readings.{maps_have_own_bytes}
use Rattle.fly_types.proofs.canonical_bytes.maps_have_own_bytes.Goals as goal

pub returns : goal.returns
returns c = maps_have_own_bytes
