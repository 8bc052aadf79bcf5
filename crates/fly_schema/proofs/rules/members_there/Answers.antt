use Rattle.serde_json.specs.Data.{object}
use Rattle.serde_json.specs.View.{view, members_view}
use Rattle.fly_schema.proofs.Gathered.{two}
use Rattle.fly_schema.proofs.rules.members_there.Goals as goal

pub returns-in_default-found : goal.returns-in_default-found
returns-in_default-found c =
    let d = object (members_view c.args.members.now.entries) in
    two d c.loop-field.found c.args.fields.now c.loop-field.field-index _
    (view c.in-Some.value.now) c.loop-field.invariant
    c.in_default-found.not-No c.loop-field-test.true c.in-Some.ensures
