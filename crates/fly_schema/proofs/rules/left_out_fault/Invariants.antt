use Rattle.std.proofs.Common.{◌≡◌}
use Rattle.serde_json.specs.Data.{object}
use Rattle.serde_json.specs.View.{members_view}
use Rattle.fly_schema.specs.declared.table.LeftOut.{LeftOut}
use Rattle.fly_schema.specs.Faults.{left_out_fault}
use Rattle.fly_schema.specs.Views.{left_out_of}
use Rattle.fly_schema.proofs.Firsts.{first_from}
use Rattle.fly_schema.proofs.rules.left_out_fault.Given as goal

abbrev pub invariant-loop-entry : goal.invariant-loop-entry
invariant-loop-entry l =
    let f = λ (e : LeftOut). left_out_fault (object (members_view l.members.entries)) (left_out_of e) in
    first_from f l.left_out 0 ≡ first_from f l.left_out l.entry-index
