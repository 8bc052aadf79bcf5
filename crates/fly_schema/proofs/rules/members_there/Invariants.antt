use Rattle.serde_json.specs.Data.{object}
use Rattle.serde_json.specs.View.{members_view}
use Rattle.fly_schema.proofs.Gathered.{SoFar, still}
use Rattle.fly_schema.proofs.rules.members_there.Given as goal

abbrev pub invariant-loop-field : goal.invariant-loop-field
invariant-loop-field l =
    let d = object (members_view l.members.entries) in
    SoFar d l.found (still d l.fields 0) (still d l.fields l.field-index)
