use Rattle.std.proofs.Common.{◌≡◌, ◌++◌, All, false, flat_map, length}
use Rattle.std.specs.Vec.Iter.{into_iter_items, into_iter_len}
use Rattle.fly_desk.specs.Pass.{IsOf, own, calls_left, is_out, HasSameStart}
use Rattle.fly_desk.specs.Workers.{IsSpent}
use Rattle.fly_desk.proofs.tests.workers.gather.Given as goal

abbrev pub invariant-loop-job : goal.invariant-loop-job
invariant-loop-job g l =
    (goal.iterator-loop-job g).can_next l.job-iterator × (goal.iterator-loop-job g).is_finite l.job-iterator
    × IsOf l.desk l.pass × (is_out l.pass ≡ false)
    × (own l.pass ++ flat_map (λ job. own job.pass) (into_iter_items l.job-iterator)
    ≡ own l.initial.pass ++ flat_map (λ job. own job.pass) (into_iter_items l.initial.job-iterator))
    × (calls_left l.pass ≡ calls_left l.initial.pass) × HasSameStart l.pass l.initial.pass
    × All (λ job. IsSpent l.desk job.pass) (into_iter_items l.job-iterator)
    × (into_iter_len l.job-iterator ≡ length (into_iter_items l.job-iterator))
