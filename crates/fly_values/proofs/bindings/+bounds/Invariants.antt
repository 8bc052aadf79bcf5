use Rattle.std.proofs.Common.{◌≡◌, ◌+◌, ◌*◌, ◌++◌, length, map, string_bytes}
use Rattle.std.specs.Vec.Iter.{into_iter_items, into_iter_len}
use Rattle.serde_json.specs.View.{view}
use Rattle.fly_values.specs.Bindings.{bound_at}
use Rattle.fly_values.proofs.bindings.+bounds.Given as goal

abbrev pub decreases-bound_from : goal.decreases-bound_from
decreases-bound_from l = 3 * l.depth

abbrev pub decreases-bound_of_parts : goal.decreases-bound_of_parts
decreases-bound_of_parts l = 3 * l.depth + 2

abbrev pub decreases-elements_from : goal.decreases-elements_from
decreases-elements_from l = 3 * l.depth + 1

abbrev pub decreases-entries_from : goal.decreases-entries_from
decreases-entries_from l = 3 * l.depth + 1

-- what was made is of the items that were yielded
abbrev pub invariant-elements_from-loop-item : goal.invariant-elements_from-loop-item
invariant-elements_from-loop-item l = record {
  all : l.yielded ++ into_iter_items l.item-iterator ≡ into_iter_items l.initial.item-iterator;
  left : into_iter_len l.item-iterator ≡ length (into_iter_items l.item-iterator);
  done : l.made.items ≡ map (λ v. bound_at l.depth (view v)) l.yielded;
}

-- what was made is of the entries that were yielded
abbrev pub invariant-entries_from-loop-name : goal.invariant-entries_from-loop-name
invariant-entries_from-loop-name l = record {
  all : l.yielded ++ l.name-iterator ≡ l.initial.name-iterator;
  done : l.made.items ≡ map (λ e. (string_bytes e.0, bound_at l.depth (view e.1))) l.yielded;
}
