use Rattle.std.proofs.Common.{◌≤◌}
use Rattle.fly_cases.proofs.driving.report.pass_count.Given as goal

abbrev pub invariant-loop-place : goal.invariant-loop-place
invariant-loop-place l = l.count ≤ l.place
