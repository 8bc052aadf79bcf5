use Rattle.std.proofs.Common.{◌≡◌, ◌++◌, take}
use Rattle.std.specs.List.{flat_map}
use Rattle.std.specs.BTreeMap.{get}
use Rattle.std.specs.Ordering.{nat_cmp}
use Rattle.std.specs.Cmp.Lexicographic.{slice_cmp}
use Rattle.fly_state.specs.Looks.{places_among, promised_ids}
use Rattle.fly_state.proofs.looks.+push_promised.Given as goal

abbrev pub invariant-push_elements-loop-element : goal.invariant-push_elements-loop-element
invariant-push_elements-loop-element l =
    l.looks.items
    ≡ l.initial.looks.items ++ flat_map (λ e. places_among (get (slice_cmp nat_cmp) l.numbers) (promised_ids e)) (take l.element-index l.elements)

abbrev pub invariant-push_entries-loop-value : goal.invariant-push_entries-loop-value
invariant-push_entries-loop-value l =
    l.looks.items
    ≡ l.initial.looks.items ++ flat_map (λ e. places_among (get (slice_cmp nat_cmp) l.numbers) (promised_ids e.1)) (take l.value-index l.entries)
