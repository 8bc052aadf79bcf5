use Rattle.std.proofs.Common.{◌≡◌, ◌∷◌, [], ◌++◌, take}
use Rattle.std.specs.List.{flat_map}
use Rattle.fly_links.specs.Named.{places_named}
use Rattle.fly_links.proofs.named.push_ids.Given as goal

abbrev pub invariant-loop-id : goal.invariant-loop-id
invariant-loop-id l = l.places.items ≡ l.initial.places.items ++ flat_map (λ id. places_named l.layout (id ∷ []))
    (take l.id-index l.ids)
