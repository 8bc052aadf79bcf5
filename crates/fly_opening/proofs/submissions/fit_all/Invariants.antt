use Rattle.std.proofs.Common.{◌≡◌, ◌++◌, map, length, string_bytes}
use Rattle.std.specs.Prelude.{flat_map}
use Rattle.std.specs.List.{enumerate_from}
use Rattle.std.specs.Vec.Iter.{into_iter_items, into_iter_len}
use Rattle.fly_opening.specs.Lines.{submission_lines}
use Rattle.fly_opening.specs.Submissions.{faults_behind, with_fitting_inputs}
use Rattle.fly_opening.proofs.submissions.fit_all.Given as goal

abbrev pub invariant-loop-submission : goal.invariant-loop-submission
invariant-loop-submission l = record {
  all : l.yielded ++ into_iter_items l.submission-iterator ≡ into_iter_items l.initial.submission-iterator;
  left : into_iter_len l.submission-iterator ≡ length (into_iter_items l.submission-iterator);
  lines : string_bytes l.lines
      ≡ string_bytes l.initial.lines
      ++ submission_lines (flat_map (faults_behind l.variables l.fn.submissions) (enumerate_from 0 l.yielded));
  done : l.fitted.items ≡ map (with_fitting_inputs l.variables) l.yielded;
}
