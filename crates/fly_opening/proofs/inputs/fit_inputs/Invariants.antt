use Rattle.std.proofs.Common.{◌≡◌, ◌++◌, length, string_bytes}
use Rattle.std.specs.Prelude.{flat_map, filter_map}
use Rattle.std.specs.Vec.Iter.{into_iter_items, into_iter_len}
use Rattle.fly_opening.specs.Lines.{submission_lines}
use Rattle.fly_opening.specs.Submissions.{input_faults, fitting_input}
use Rattle.fly_opening.proofs.inputs.fit_inputs.Given as goal

abbrev pub invariant-loop-name : goal.invariant-loop-name
invariant-loop-name l = record {
  all : l.yielded ++ into_iter_items l.name-iterator ≡ into_iter_items l.initial.name-iterator;
  left : into_iter_len l.name-iterator ≡ length (into_iter_items l.name-iterator);
  lines : string_bytes l.lines
      ≡ string_bytes l.initial.lines ++ submission_lines (flat_map (input_faults l.variables l.exec) l.yielded);
  done : l.fitted.items ≡ filter_map (fitting_input l.variables) l.yielded;
}
