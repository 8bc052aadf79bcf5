use Rattle.std.proofs.Common.{◌≡◌, ◌++◌, length}
use Rattle.std.specs.Vec.Iter.{into_iter_items, into_iter_len}
use Rattle.fly_opening.specs.Opening.{opened_store}
use Rattle.fly_opening.proofs.opening.submit_all.Given as goal

abbrev pub invariant-loop-submission : goal.invariant-loop-submission
invariant-loop-submission l = record {
  all : l.yielded ++ into_iter_items l.submission-iterator ≡ into_iter_items l.initial.submission-iterator;
  left : into_iter_len l.submission-iterator ≡ length (into_iter_items l.submission-iterator);
  opened : l.world ≡ opened_store l.fn.world.plan l.fn.world.closure (length l.fn.submissions) l.yielded;
}
