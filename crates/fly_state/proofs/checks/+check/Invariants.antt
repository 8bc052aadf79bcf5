use Rattle.std.proofs.Common.{◌+◌, ◌*◌, [], map, take}
use Rattle.fly_types.specs.Levels.{type_levels, largest}
use Rattle.fly_cast.specs.Conversion.{each_result, entry_result}
use Rattle.fly_docs.specs.declared.binding.Bound.{Bound}
use Rattle.fly_docs.specs.SlotInputs.{bound_value}
use Rattle.fly_state.specs.declared.checks.Taking.TheVariants as taking
use Rattle.fly_state.specs.Checks.{IsTakingOf}
use Rattle.fly_state.specs.Origins.{source_in_run}
use Rattle.fly_state.specs.States.{known_in}
use Rattle.fly_state.proofs.checks.+check.Given as goal

abbrev pub decreases-check_bound : goal.decreases-check_bound
decreases-check_bound l = 4 * type_levels l.kind.now + 1

abbrev pub decreases-check_elements : goal.decreases-check_elements
decreases-check_elements l = 4 * type_levels l.kind.now + 2

abbrev pub decreases-check_entries : goal.decreases-check_entries
decreases-check_entries l = 4 * type_levels l.kind.now + 2

abbrev pub decreases-check_variants : goal.decreases-check_variants
decreases-check_variants l = 4 * largest (map type_levels l.variants.now) + 2

abbrev pub invariant-check_elements-loop-element : goal.invariant-check_elements-loop-element
invariant-check_elements-loop-element l =
    let value = λ (e : Bound). bound_value (source_in_run l.plan) (known_in l.plan l.state []) e l.kind in
    IsTakingOf (each_result value (take l.element-index l.elements)) taking.There

abbrev pub invariant-check_entries-loop-value : goal.invariant-check_entries-loop-value
invariant-check_entries-loop-value l =
    let value = λ (e : Bound). bound_value (source_in_run l.plan) (known_in l.plan l.state []) e l.kind in
    IsTakingOf (each_result (entry_result value) (take l.value-index l.entries)) taking.There
