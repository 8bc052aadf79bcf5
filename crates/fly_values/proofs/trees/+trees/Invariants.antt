use Rattle.std.proofs.Common.{◌≡◌, ◌+◌, ◌*◌, ◌++◌, length, map, string_bytes}
use Rattle.std.specs.Vec.Iter.{into_iter_items, into_iter_len}
use Rattle.serde_json.specs.View.{view}
use Rattle.fly_values.specs.Trees.{tree_at}
use Rattle.fly_values.proofs.trees.+trees.Given as goal

abbrev pub decreases-tree_from : goal.decreases-tree_from
decreases-tree_from l = 2 * l.depth

abbrev pub decreases-trees_from : goal.decreases-trees_from
decreases-trees_from l = 2 * l.depth + 1

abbrev pub decreases-members_from : goal.decreases-members_from
decreases-members_from l = 2 * l.depth + 1

-- what was made is of the items that were yielded
abbrev pub invariant-trees_from-loop-item : goal.invariant-trees_from-loop-item
invariant-trees_from-loop-item l = record {
  all : l.yielded ++ into_iter_items l.item-iterator ≡ into_iter_items l.initial.item-iterator;
  left : into_iter_len l.item-iterator ≡ length (into_iter_items l.item-iterator);
  done : l.made.items ≡ map (λ v. tree_at l.depth (view v)) l.yielded;
}

-- what was made is of the entries that were yielded
abbrev pub invariant-members_from-loop-name : goal.invariant-members_from-loop-name
invariant-members_from-loop-name l = record {
  all : l.yielded ++ l.name-iterator ≡ l.initial.name-iterator;
  done : l.made.items ≡ map (λ e. (string_bytes e.0, tree_at l.depth (view e.1))) l.yielded;
}
