use Rattle.std.proofs.Common.{◌≡◌, ◌+◌, ◌*◌, map, true, take, filter}
use Rattle.std.specs.List.{list_all}
use Rattle.std.specs.Option.{option_copied, option_to_list}
use Rattle.fly_types.specs.Levels.{type_levels, largest}
use Rattle.fly_docs.specs.Fitting.{bound_fits}
use Rattle.fly_state.specs.Origins.{source_in_run}
use Rattle.fly_state.proofs.fits.+bound_fits.Given as goal

abbrev pub decreases-does_bound_fit : goal.decreases-does_bound_fit
decreases-does_bound_fit l = 4 * type_levels l.kind.now + 1

abbrev pub decreases-do_bounds_fit : goal.decreases-do_bounds_fit
decreases-do_bounds_fit l = 4 * type_levels l.kind.now + 2

abbrev pub decreases-do_entries_fit : goal.decreases-do_entries_fit
decreases-do_entries_fit l = 4 * type_levels l.kind.now + 2

abbrev pub decreases-only_fitting : goal.decreases-only_fitting
decreases-only_fitting l = 4 * largest (map type_levels l.variants.now) + 2

abbrev pub invariant-do_bounds_fit-loop-element : goal.invariant-do_bounds_fit-loop-element
invariant-do_bounds_fit-loop-element l =
    list_all (λ e. bound_fits (source_in_run l.plan) e l.kind) (take l.element-index l.elements) ≡ true

abbrev pub invariant-do_entries_fit-loop-value : goal.invariant-do_entries_fit-loop-value
invariant-do_entries_fit-loop-value l =
    list_all (λ e. bound_fits (source_in_run l.plan) e.1 l.kind) (take l.value-index l.entries) ≡ true

abbrev pub invariant-only_fitting-loop-variant : goal.invariant-only_fitting-loop-variant
invariant-only_fitting-loop-variant l =
    filter (bound_fits (source_in_run l.plan) l.x) (take l.variant-index l.variants) ≡ option_to_list (option_copied l.fitting)
