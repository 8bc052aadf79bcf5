use Rattle.std.proofs.Common.{◌≡◌, ◌+◌, ◌<◌, ◌^◌, length, map}
use Rattle.serde_json.specs.View.{view}
use Rattle.serde_json.specs.declared.value.Value.{Value}
use Rattle.fly_schema.specs.Structs.{struct_fault}
use Rattle.fly_schema.specs.Places.{first_numbered}
use Rattle.fly_schema.proofs.Firsts.{numbered_from}
use Rattle.fly_schema.proofs.Viewed.{Entry}
use Rattle.fly_schema.proofs.structs.+structs.Given as goal

abbrev pub invariant-items_fault-loop-place : goal.invariant-items_fault-loop-place
invariant-items_fault-loop-place l =
    let f = λ (v : Value). struct_fault (view v) l.levels in
    numbered_from f l.item-items 0 ≡ numbered_from f l.item-items l.place

abbrev pub invariant-members_fault-loop-member : goal.invariant-members_fault-loop-member
invariant-members_fault-loop-member l =
    let f = λ (e : Entry). struct_fault (view e.1) l.levels in
    (first_numbered 0 (map f l.members.entries) ≡ first_numbered l.place (map f l.member-iterator))
    × (l.place + length l.member-iterator < 2 ^ 63)
