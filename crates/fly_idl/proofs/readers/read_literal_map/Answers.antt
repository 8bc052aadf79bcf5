use Rattle.fly_types.specs.Sound.{IsSoundMap}
use Rattle.fly_idl.specs.Reading.{ReadsLiteralMap}
use Rattle.fly_idl.proofs.Kept.{where_ok, map-read}
use Rattle.fly_idl.proofs.readers.read_literal_map.Goals as goal

pub returns-clause-sound : goal.returns-clause-sound
returns-clause-sound c =
    where_ok (ReadsLiteralMap c.args.bytes.now) IsSoundMap (map-read c.args.bytes.now) c.read_document.result
    c.read_document.ensures.read
