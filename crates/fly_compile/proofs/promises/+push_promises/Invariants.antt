use Rattle.std.proofs.Common.{◌≡◌, ◌++◌, map, take}
use Rattle.std.specs.List.{flat_map}
use Rattle.fly_docs.specs.Bindings.{promises_of}
use Rattle.fly_compile.specs.Scopes.{source_there}
use Rattle.fly_compile.specs.Promises.{known, with_sources}
use Rattle.fly_compile.proofs.promises.+push_promises.Given as goal

abbrev pub invariant-push_elements-loop-element : goal.invariant-push_elements-loop-element
invariant-push_elements-loop-element l =
    map known l.promises.items
    ≡ map known l.initial.promises.items ++ flat_map (λ e. with_sources (source_there l.sources) (promises_of e)) (take l.element-index l.elements)

abbrev pub invariant-push_entries-loop-value : goal.invariant-push_entries-loop-value
invariant-push_entries-loop-value l =
    map known l.promises.items
    ≡ map known l.initial.promises.items ++ flat_map (λ e. with_sources (source_there l.sources) (promises_of e.1)) (take l.value-index l.entries)
