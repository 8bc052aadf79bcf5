use Rattle.std.proofs.Common.{◌≡◌, ◌++◌, take}
use Rattle.std.specs.List.{flat_map}
use Rattle.fly_links.specs.Named.{places_named, promised_ids}
use Rattle.fly_links.proofs.named.+push_bound.Given as goal

abbrev pub invariant-push_elements-loop-element : goal.invariant-push_elements-loop-element
invariant-push_elements-loop-element l =
    l.places.items ≡ l.initial.places.items ++ flat_map (λ x. places_named l.layout (promised_ids x))
    (take l.element-index l.elements)

abbrev pub invariant-push_entries-loop-value : goal.invariant-push_entries-loop-value
invariant-push_entries-loop-value l =
    l.places.items ≡ l.initial.places.items ++ flat_map (λ entry. places_named l.layout (promised_ids entry.1))
    (take l.value-index l.entries)
