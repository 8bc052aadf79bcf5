use Rattle.fly_idl.specs.Rows.{submissions_form}
use Rattle.fly_app.proofs.reading.submissions_of.Goals as goal

pub returns-in-Err : goal.returns-in-Err
returns-in-Err c = c.document_refusal.ensures submissions_form c.args.bytes.now c.in-Err.ensures.fault
