use Rattle.std.proofs.Common.{◌≡◌, ◌+◌, ◌*◌, ◌++◌, length, map}
use Rattle.std.specs.Vec.Iter.{into_iter_items, into_iter_len}
use Rattle.serde_json.specs.View.{view}
use Rattle.fly_values.specs.Types.{type_at}
use Rattle.fly_values.proofs.types.+types.Given as goal

abbrev pub decreases-type_from : goal.decreases-type_from
decreases-type_from l = 3 * l.depth

abbrev pub decreases-type_of_parts : goal.decreases-type_of_parts
decreases-type_of_parts l = 3 * l.depth + 2

abbrev pub decreases-variants_from : goal.decreases-variants_from
decreases-variants_from l = 3 * l.depth + 1

-- what was made is of the items that were yielded
abbrev pub invariant-variants_from-loop-variant : goal.invariant-variants_from-loop-variant
invariant-variants_from-loop-variant l = record {
  all : l.yielded ++ into_iter_items l.variant-iterator ≡ into_iter_items l.initial.variant-iterator;
  left : into_iter_len l.variant-iterator ≡ length (into_iter_items l.variant-iterator);
  done : l.made.items ≡ map (λ v. type_at l.depth (view v)) l.yielded;
}
