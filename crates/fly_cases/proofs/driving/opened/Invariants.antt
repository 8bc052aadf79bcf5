use Rattle.std.proofs.Common.{◌≡◌}
use Rattle.fly_cases.proofs.driving.opened.Given as goal

abbrev pub invariant-loop-submission : goal.invariant-loop-submission
invariant-loop-submission l = l.world.plan ≡ l.plan
