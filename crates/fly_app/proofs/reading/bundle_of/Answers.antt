use Rattle.fly_idl.specs.Rows.{bundle_form}
use Rattle.fly_app.proofs.reading.bundle_of.Goals as goal

pub returns-in-Err-clause-err : goal.returns-in-Err-clause-err
returns-in-Err-clause-err c = c.document_refusal.ensures bundle_form c.args.bytes.now c.in-Err.ensures.fault
