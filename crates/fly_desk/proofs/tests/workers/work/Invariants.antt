use Rattle.std.proofs.Common.{◌≡◌, ◌+◌, false}
use Rattle.fly_desk.specs.Pass.{IsOf, own, calls_left, is_out}
use Rattle.fly_desk.specs.Workers.{HasTurns}
use Rattle.fly_desk.proofs.tests.workers.work.Given as goal

abbrev pub invariant-loop-number : goal.invariant-loop-number
invariant-loop-number g l =
    IsOf l.desk l.job.pass × (is_out l.job.pass ≡ false)
    × HasTurns l.job.worker l.number (own l.job.pass)
    × (l.number + calls_left l.job.pass ≡ calls_left l.initial.job.pass)
    × (l.job.worker ≡ l.initial.job.worker)
