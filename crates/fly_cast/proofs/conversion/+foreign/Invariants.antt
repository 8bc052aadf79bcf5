use Rattle.std.proofs.Common.{◌≡◌, ◌+◌, ◌*◌, length, take, Ok}
use Rattle.fly_cast.specs.Conversion.{each_result, entry_result}
use Rattle.fly_cast.specs.Plan.{conversion_by}
use Rattle.fly_cast.proofs.conversion.+foreign.Given as goal

abbrev pub decreases-foreign_text : goal.decreases-foreign_text
decreases-foreign_text l = 2 * length l.steps.now

abbrev pub decreases-foreign_in_elements : goal.decreases-foreign_in_elements
decreases-foreign_in_elements l = 2 * length l.steps.now + 1

abbrev pub decreases-foreign_in_values : goal.decreases-foreign_in_values
decreases-foreign_in_values l = 2 * length l.steps.now + 1

abbrev pub invariant-foreign_in_elements-loop-element : goal.invariant-foreign_in_elements-loop-element
invariant-foreign_in_elements-loop-element l =
    each_result (conversion_by l.steps) (take l.element-index l.elements) ≡ Ok (take l.element-index l.elements)

abbrev pub invariant-foreign_in_values-loop-value : goal.invariant-foreign_in_values-loop-value
invariant-foreign_in_values-loop-value l =
    each_result (entry_result (conversion_by l.steps)) (take l.value-index l.entries)
    ≡ Ok (take l.value-index l.entries)
