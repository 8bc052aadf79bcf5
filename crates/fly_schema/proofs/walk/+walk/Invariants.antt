use Rattle.std.proofs.Common.{◌≡◌, map, ◌+◌, ◌*◌, ◌<◌, ◌≤◌, ◌^◌, length}
use Rattle.serde_json.specs.Data.{object, depth, items_depth, members_depth}
use Rattle.serde_json.specs.View.{view, items_view, members_view}
use Rattle.serde_json.specs.declared.value.Value.{Value}
use Rattle.fly_schema.specs.Faults.{fault_of, member_fault, part_fault}
use Rattle.fly_schema.specs.Places.{first_numbered}
use Rattle.fly_schema.specs.Views.{table_of, form_of, part_of, texts_of}
use Rattle.fly_schema.specs.declared.table.Part.{Part}
use Rattle.fly_schema.proofs.Firsts.{numbered_from, first_from}
use Rattle.fly_schema.proofs.Viewed.{entry_of}
use Rattle.fly_schema.proofs.walk.+walk.Given as goal

abbrev pub invariant-items_fault-loop-place : goal.invariant-items_fault-loop-place
invariant-items_fault-loop-place l =
    let f = λ (v : Value). fault_of (table_of l.rows) (view v) (form_of l.form) l.level in
    numbered_from f l.items 0 ≡ numbered_from f l.items l.place

abbrev pub invariant-entries_fault-loop-key : goal.invariant-entries_fault-loop-key
invariant-entries_fault-loop-key l =
    let f = entry_of (table_of l.rows) (texts_of l.keys) (form_of l.form) l.level in
    (first_numbered 0 (map f l.members.entries) ≡ first_numbered l.place (map f l.key-iterator))
    × (l.place + length l.key-iterator < 2 ^ 63)
    × (members_depth (members_view l.key-iterator) ≤ members_depth (members_view l.members.entries))

abbrev pub invariant-row_fault-loop-part : goal.invariant-row_fault-loop-part
invariant-row_fault-loop-part l =
    let ms = members_view l.members.entries in
    let f = λ (p : Part). part_fault (object ms) (member_fault (table_of l.rows) ms) l.level (part_of p) in
    first_from f l.part-items 0 ≡ first_from f l.part-items l.part-index

-- the levels of JSON that are left, and how far a call is from the next value

abbrev pub decreases-value_fault : goal.decreases-value_fault
decreases-value_fault l = 8 * depth (view l.value.now)

abbrev pub decreases-items_fault : goal.decreases-items_fault
decreases-items_fault l = 8 * items_depth (items_view l.items.now) + 1

abbrev pub decreases-entries_fault : goal.decreases-entries_fault
decreases-entries_fault l = 8 * members_depth (members_view l.members.now.entries) + 2

abbrev pub decreases-entry_fault : goal.decreases-entry_fault
decreases-entry_fault l = 8 * depth (view l.value.now) + 1

abbrev pub decreases-content_fault : goal.decreases-content_fault
decreases-content_fault l = 8 * members_depth (members_view l.members.now.entries) + 4

abbrev pub decreases-row_fault : goal.decreases-row_fault
decreases-row_fault l = 8 * members_depth (members_view l.members.now.entries) + 3

abbrev pub decreases-part_fault : goal.decreases-part_fault
decreases-part_fault l = 8 * members_depth (members_view l.members.now.entries) + 2

abbrev pub decreases-single_fault : goal.decreases-single_fault
decreases-single_fault l = 8 * members_depth (members_view l.members.now.entries) + 1

abbrev pub decreases-one_of_fault : goal.decreases-one_of_fault
decreases-one_of_fault l = 8 * members_depth (members_view l.members.now.entries) + 1
