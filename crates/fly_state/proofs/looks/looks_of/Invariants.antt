use Rattle.std.proofs.Common.{◌≡◌, ◌++◌, take}
use Rattle.std.specs.BTreeMap.{get}
use Rattle.std.specs.Ordering.{nat_cmp}
use Rattle.std.specs.Cmp.Lexicographic.{slice_cmp}
use Rattle.fly_docs.specs.Bindings.{sources_of}
use Rattle.fly_state.specs.Looks.{places_among}
use Rattle.fly_state.proofs.looks.looks_of.Given as goal

abbrev pub invariant-loop-binding : goal.invariant-loop-binding
invariant-loop-binding l =
    l.looks.items ≡ places_among (get (slice_cmp nat_cmp) l.numbers) (sources_of (take l.binding-index l.node.inputs))

abbrev pub invariant-loop-id : goal.invariant-loop-id
invariant-loop-id l =
    l.looks.items
    ≡ places_among (get (slice_cmp nat_cmp) l.numbers) (sources_of l.node.inputs)
    ++ places_among (get (slice_cmp nat_cmp) l.numbers) (take l.id-index l.node.upstream)
