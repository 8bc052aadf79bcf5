use Rattle.std.proofs.Common.{◌≡◌, ◌+◌, ◌-◌, ◌*◌, true, take, is_ok}
use Rattle.std.specs.List.{list_all}
use Rattle.fly_types.specs.Levels.{type_levels}
use Rattle.fly_cast.specs.Conversion.{conversion_of}
use Rattle.fly_state.proofs.converts.+converts.Given as goal

abbrev pub decreases-does_convert : goal.decreases-does_convert
decreases-does_convert l = 4 * (type_levels l.a.now + type_levels l.b.now) + 1

abbrev pub decreases-does_form_convert : goal.decreases-does_form_convert
decreases-does_form_convert l = 4 * (type_levels l.a.now + type_levels l.b.now)

abbrev pub decreases-does_value_convert : goal.decreases-does_value_convert
decreases-does_value_convert l = 4 * (type_levels l.a.now + type_levels l.b.now) - 1

abbrev pub decreases-do_elements_convert : goal.decreases-do_elements_convert
decreases-do_elements_convert l = 4 * (type_levels l.a.now + type_levels l.b.now) + 3

abbrev pub decreases-do_all_convert : goal.decreases-do_all_convert
decreases-do_all_convert l = 4 * (type_levels l.a.now + type_levels l.b.now) + 2

abbrev pub decreases-do_values_convert : goal.decreases-do_values_convert
decreases-do_values_convert l = 4 * (type_levels l.a.now + type_levels l.b.now) + 3

abbrev pub decreases-do_all_values_convert : goal.decreases-do_all_values_convert
decreases-do_all_values_convert l = 4 * (type_levels l.a.now + type_levels l.b.now) + 2

abbrev pub invariant-do_all_convert-loop-element : goal.invariant-do_all_convert-loop-element
invariant-do_all_convert-loop-element l =
    list_all (λ e. is_ok (conversion_of e l.a l.b)) (take l.element-index l.elements) ≡ true

abbrev pub invariant-do_all_values_convert-loop-value : goal.invariant-do_all_values_convert-loop-value
invariant-do_all_values_convert-loop-value l =
    list_all (λ e. is_ok (conversion_of e.1 l.a l.b)) (take l.value-index l.entries) ≡ true
