use Rattle.std.proofs.Common.{◌≡◌, ◌+◌, ◌*◌, [], map, take, Ok}
use Rattle.fly_types.specs.Levels.{type_levels, largest}
use Rattle.fly_cast.specs.Conversion.{each_result, entry_result}
use Rattle.fly_docs.specs.SlotInputs.{bound_value}
use Rattle.fly_state.specs.Origins.{source_in_run}
use Rattle.fly_state.specs.States.{known_in}
use Rattle.fly_state.proofs.values.+value.Given as goal

abbrev pub decreases-take_bound : goal.decreases-take_bound
decreases-take_bound l = 4 * type_levels l.kind.now + 1

abbrev pub decreases-take_elements : goal.decreases-take_elements
decreases-take_elements l = 4 * type_levels l.kind.now + 2

abbrev pub decreases-take_entries : goal.decreases-take_entries
decreases-take_entries l = 4 * type_levels l.kind.now + 2

abbrev pub decreases-take_variant : goal.decreases-take_variant
decreases-take_variant l = 4 * largest (map type_levels l.variants.now) + 2

abbrev pub invariant-take_elements-loop-element : goal.invariant-take_elements-loop-element
invariant-take_elements-loop-element l =
    each_result (λ e. bound_value (source_in_run l.plan) (known_in l.plan l.state []) e l.kind) (take l.element-index l.elements) ≡ Ok l.values.items

abbrev pub invariant-take_entries-loop-name : goal.invariant-take_entries-loop-name
invariant-take_entries-loop-name l =
    each_result (entry_result (λ e. bound_value (source_in_run l.plan) (known_in l.plan l.state []) e l.kind)) (take l.name-index l.entries)
    ≡ Ok l.values.items
