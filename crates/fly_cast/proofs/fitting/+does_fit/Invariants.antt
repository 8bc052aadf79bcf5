use Rattle.std.proofs.Common.{◌≡◌, ◌+◌, ◌*◌, map, true, take, is_some, filter}
use Rattle.std.specs.List.{list_all}
use Rattle.std.specs.Option.{option_copied, option_to_list}
use Rattle.fly_types.specs.Levels.{type_levels, largest}
use Rattle.fly_cast.specs.Fitting.{fitting_of}
use Rattle.fly_cast.proofs.fitting.+does_fit.Given as goal

abbrev pub decreases-does_fit : goal.decreases-does_fit
decreases-does_fit l = 4 * type_levels l.kind.now + 1

abbrev pub decreases-does_form_fit : goal.decreases-does_form_fit
decreases-does_form_fit l = 4 * type_levels l.kind.now

abbrev pub decreases-do_elements_fit : goal.decreases-do_elements_fit
decreases-do_elements_fit l = 4 * type_levels l.kind.now + 2

abbrev pub decreases-do_values_fit : goal.decreases-do_values_fit
decreases-do_values_fit l = 4 * type_levels l.kind.now + 2

abbrev pub decreases-only_fitting : goal.decreases-only_fitting
decreases-only_fitting l = 4 * largest (map type_levels l.variants.now) + 2

abbrev pub decreases-does_fit_union : goal.decreases-does_fit_union
decreases-does_fit_union l = 4 * largest (map type_levels l.variants.now) + 3

abbrev pub invariant-do_elements_fit-loop-element : goal.invariant-do_elements_fit-loop-element
invariant-do_elements_fit-loop-element l =
    list_all (λ e. is_some (fitting_of e l.kind)) (take l.element-index l.elements) ≡ true

abbrev pub invariant-do_values_fit-loop-value : goal.invariant-do_values_fit-loop-value
invariant-do_values_fit-loop-value l =
    list_all (λ e. is_some (fitting_of e.1 l.kind)) (take l.value-index l.entries) ≡ true

abbrev pub invariant-only_fitting-loop-variant : goal.invariant-only_fitting-loop-variant
invariant-only_fitting-loop-variant l =
    filter (λ v. is_some (fitting_of l.literal v)) (take l.variant-index l.variants)
    ≡ option_to_list (option_copied l.fitting)
