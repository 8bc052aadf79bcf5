use Rattle.std.proofs.Common.{◌≤◌, length, subst, ap, sym, ◌∙◌, arith}
use Rattle.serde_json.specs.View.{view}
use Rattle.fly_schema.specs.Reports.{first_report}
use Rattle.fly_schema.specs.Views.{form_of}
use Rattle.fly_idl.specs.Reading.{document_limit, IsFirstFault}
use Rattle.fly_idl.proofs.ReadingLemmas.{found-fault}
use Rattle.fly_idl.proofs.documents.read_tree.Goals as goal

pub returns-in-Ok-Some-clause-fault : goal.returns-in-Ok-Some-clause-fault
returns-in-Ok-Some-clause-fault c =
    let form = form_of c.args.form.now in
    let bytes = c.args.bytes.now in
    let tree = view c.in-Ok.tree in
    let within : length bytes ≤ document_limit = omega arith in
    let found = c.in-Ok-Some.ensures ∙ ap (λ rows. first_report rows form tree) c.message_table.ensures in
    subst (λ f. IsFirstFault form bytes f) (sym c.in-Ok-Some.fault-is)
    (found-fault form bytes c.in-Ok-Some.fault _ tree within
    (record { utf8 = c.in-Ok.ensures.ok.0; value = c.in-Ok.ensures.ok.1 }) c.in-Ok-Some.field-0-is found)
