use Rattle.std.proofs.Common.{refl, sym, ◌∙◌}
use Rattle.serde_json.specs.Data.{object}
use Rattle.serde_json.specs.View.{members_view}
use Rattle.fly_schema.specs.Views.{name_of}
use Rattle.fly_schema.proofs.Spellings.{value_by}
use Rattle.fly_schema.proofs.lookups.find_field.Goals as goal

pub returns-in-Some : goal.returns-in-Some
returns-in-Some c =
    let d = object (members_view c.args.members.now.entries) in
    c.unless_null.ensures ∙ sym (value_by (name_of c.args.name.now) d _ _ (sym c.in-Some.ensures) refl)

pub returns-in-Some-member : goal.returns-in-Some-member
returns-in-Some-member c =
    let d = object (members_view c.args.members.now.entries) in
    c.unless_null-in-Some-member.ensures
    ∙ sym (value_by (name_of c.args.name.now) d _ _ (sym c.in-None.ensures) (sym c.in-Some-member.ensures))

pub returns-in-None-member : goal.returns-in-None-member
returns-in-None-member c =
    let d = object (members_view c.args.members.now.entries) in
    sym (value_by (name_of c.args.name.now) d _ _ (sym c.in-None.ensures) (sym c.in-None-member.ensures))
