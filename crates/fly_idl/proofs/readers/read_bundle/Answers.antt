use Rattle.fly_docs.specs.Form.{IsBundleInForm}
use Rattle.fly_docs.specs.Readable.{IsReadable}
use Rattle.fly_docs.specs.SoundDocuments.{IsSoundBundle}
use Rattle.fly_idl.specs.Reading.{ReadsBundle}
use Rattle.fly_idl.proofs.Kept.{where_ok, form-read, readable-read, bundle-read}
use Rattle.fly_idl.proofs.readers.read_bundle.Goals as goal

pub returns-clause-form : goal.returns-clause-form
returns-clause-form c =
    where_ok (ReadsBundle c.args.bytes.now) IsBundleInForm (form-read c.args.bytes.now) c.read_document.result
    c.read_document.ensures.read

pub returns-clause-readable : goal.returns-clause-readable
returns-clause-readable c =
    where_ok (ReadsBundle c.args.bytes.now) IsReadable (readable-read c.args.bytes.now) c.read_document.result
    c.read_document.ensures.read

pub returns-clause-sound : goal.returns-clause-sound
returns-clause-sound c =
    where_ok (ReadsBundle c.args.bytes.now) IsSoundBundle (bundle-read c.args.bytes.now) c.read_document.result
    c.read_document.ensures.read
