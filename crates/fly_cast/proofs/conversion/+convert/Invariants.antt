use Rattle.std.proofs.Common.{◌≡◌, ◌++◌, ◌+◌, ◌*◌, length, Ok}
use Rattle.std.specs.Vec.Iter.{into_iter_items, into_iter_len}
use Rattle.fly_types.specs.Levels.{type_levels}
use Rattle.fly_cast.specs.Conversion.{each_result, entry_result}
use Rattle.fly_cast.specs.Plan.{conversion_by, depth_of}
use Rattle.fly_cast.proofs.conversion.+convert.Given as goal

abbrev pub decreases-convert_by_steps : goal.decreases-convert_by_steps
decreases-convert_by_steps l = 4 * (type_levels l.a.now + type_levels l.b.now) + 2

abbrev pub decreases-take_steps : goal.decreases-take_steps
decreases-take_steps l = depth_of l.steps.now + 1

abbrev pub decreases-convert_collection : goal.decreases-convert_collection
decreases-convert_collection l = depth_of l.steps.now + 3

abbrev pub decreases-convert_elements : goal.decreases-convert_elements
decreases-convert_elements l = depth_of l.steps.now + 2

abbrev pub decreases-convert_map : goal.decreases-convert_map
decreases-convert_map l = depth_of l.steps.now + 3

abbrev pub decreases-convert_entries : goal.decreases-convert_entries
decreases-convert_entries l = depth_of l.steps.now + 2

abbrev pub invariant-convert_elements-loop-element : goal.invariant-convert_elements-loop-element
invariant-convert_elements-loop-element l = record {
  all : l.yielded ++ into_iter_items l.element-iterator ≡ into_iter_items l.initial.element-iterator;
  left : into_iter_len l.element-iterator ≡ length (into_iter_items l.element-iterator);
  done : each_result (conversion_by l.steps) l.yielded ≡ Ok l.converted.items;
}

abbrev pub invariant-convert_entries-loop-name : goal.invariant-convert_entries-loop-name
invariant-convert_entries-loop-name l = record {
  all : l.yielded ++ into_iter_items l.name-iterator ≡ into_iter_items l.initial.name-iterator;
  left : into_iter_len l.name-iterator ≡ length (into_iter_items l.name-iterator);
  done : each_result (entry_result (conversion_by l.steps)) l.yielded ≡ Ok l.converted.items;
}
