use Rattle.fly_readback.proofs.LiteralLaws.{literal_maps_are_read_back}
use Rattle.fly_readback.proofs.laws.literal_maps_are_read_back.Goals as goal

pub returns : goal.returns
returns c = literal_maps_are_read_back
