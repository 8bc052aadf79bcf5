use Rattle.std.proofs.Common.{◌≡◌, ◌++◌, ◌+◌, ◌*◌, map, length, Some}
use Rattle.std.specs.Vec.Iter.{into_iter_items, into_iter_len}
use Rattle.fly_types.specs.Levels.{type_levels, largest}
use Rattle.fly_cast.specs.Fitting.{each_value, entry_value, fitting_of}
use Rattle.fly_cast.proofs.fitting.+fit.Given as goal

abbrev pub decreases-fit_by_rule : goal.decreases-fit_by_rule
decreases-fit_by_rule l = 6 * type_levels l.kind.now + 1

abbrev pub decreases-fit_form : goal.decreases-fit_form
decreases-fit_form l = 6 * type_levels l.kind.now

abbrev pub decreases-fit_union : goal.decreases-fit_union
decreases-fit_union l = 6 * largest (map type_levels l.variants.now) + 3

abbrev pub decreases-fit_into_union : goal.decreases-fit_into_union
decreases-fit_into_union l = 6 * largest (map type_levels l.variants.now) + 2

abbrev pub decreases-fit_collection : goal.decreases-fit_collection
decreases-fit_collection l = 6 * type_levels l.element.now + 3

abbrev pub decreases-fit_elements : goal.decreases-fit_elements
decreases-fit_elements l = 6 * type_levels l.kind.now + 2

abbrev pub decreases-fit_map : goal.decreases-fit_map
decreases-fit_map l = 6 * type_levels l.value.now + 3

abbrev pub decreases-fit_entries : goal.decreases-fit_entries
decreases-fit_entries l = 6 * type_levels l.kind.now + 2

abbrev pub invariant-fit_elements-loop-element : goal.invariant-fit_elements-loop-element
invariant-fit_elements-loop-element l = record {
  all : l.yielded ++ into_iter_items l.element-iterator ≡ into_iter_items l.initial.element-iterator;
  left : into_iter_len l.element-iterator ≡ length (into_iter_items l.element-iterator);
  done : each_value (λ e. fitting_of e l.kind) l.yielded ≡ Some l.fitted.items;
}

abbrev pub invariant-fit_entries-loop-name : goal.invariant-fit_entries-loop-name
invariant-fit_entries-loop-name l = record {
  all : l.yielded ++ into_iter_items l.name-iterator ≡ into_iter_items l.initial.name-iterator;
  left : into_iter_len l.name-iterator ≡ length (into_iter_items l.name-iterator);
  done : each_value (entry_value (λ e. fitting_of e l.kind)) l.yielded ≡ Some l.fitted.items;
}
