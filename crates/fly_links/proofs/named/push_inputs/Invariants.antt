use Rattle.std.proofs.Common.{◌≡◌, ◌++◌, take}
use Rattle.std.specs.List.{flat_map}
use Rattle.fly_links.specs.Named.{places_named, promised_ids}
use Rattle.fly_links.proofs.named.push_inputs.Given as goal

abbrev pub invariant-loop-input : goal.invariant-loop-input
invariant-loop-input l =
    l.places.items ≡ l.initial.places.items ++ flat_map (λ x. places_named l.layout (promised_ids x.bound))
    (take l.input-index l.inputs)
