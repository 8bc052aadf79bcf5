use Rattle.std.proofs.Common.{◌≡◌}
use Rattle.serde_json.specs.Data.{object}
use Rattle.serde_json.specs.View.{members_view}
use Rattle.fly_schema.specs.declared.table.Field.{Field}
use Rattle.fly_schema.specs.Faults.{float_fault}
use Rattle.fly_schema.specs.Views.{field_of}
use Rattle.fly_schema.proofs.Firsts.{first_from}
use Rattle.fly_schema.proofs.rules.two_fault.Given as goal

abbrev pub invariant-loop-field : goal.invariant-loop-field
invariant-loop-field l =
    let f = λ (x : Field). float_fault (object (members_view l.members.entries)) (field_of x) in
    first_from f l.fields 0 ≡ first_from f l.fields l.field-index
