use Rattle.fly_idl.specs.Saying.{Says, HasSoundOutputs}
use Rattle.fly_idl.proofs.Kept.{where_ok, said-sound}
use Rattle.fly_idl.proofs.SayingLemmas.{says-only}
use Rattle.fly_idl.proofs.readers.read_said.Goals as goal

pub returns-clause-only : goal.returns-clause-only
returns-clause-only c = says-only c.args.zero c.args.bytes.now c.said_of.result c.said_of.ensures

pub returns-clause-sound : goal.returns-clause-sound
returns-clause-sound c =
    where_ok (Says c.args.zero c.args.bytes.now) HasSoundOutputs (said-sound c.args.zero c.args.bytes.now) c.said_of.result
    c.said_of.ensures
