use Rattle.fly_idl.specs.Reading.{ReadsSubmissions, HaveIds, HaveSoundInputs}
use Rattle.fly_idl.proofs.Kept.{where_ok, ids-read, inputs-read}
use Rattle.fly_idl.proofs.readers.read_submissions.Goals as goal

pub returns-clause-named : goal.returns-clause-named
returns-clause-named c =
    where_ok (ReadsSubmissions c.args.bytes.now) HaveIds (ids-read c.args.bytes.now) c.read_document.result
    c.read_document.ensures.read

pub returns-clause-sound : goal.returns-clause-sound
returns-clause-sound c =
    where_ok (ReadsSubmissions c.args.bytes.now) HaveSoundInputs (inputs-read c.args.bytes.now) c.read_document.result
    c.read_document.ensures.read
