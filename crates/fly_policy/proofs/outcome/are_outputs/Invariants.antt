use Rattle.std.proofs.Common.{◌≡◌, take, length}
use Rattle.std.specs.List.{AllZip}
use Rattle.fly_policy.specs.Outcome.{Gives}
use Rattle.fly_policy.proofs.outcome.are_outputs.Given as goal

abbrev pub invariant-loop-i : goal.invariant-loop-i
invariant-loop-i l = record {
  len : length l.entries ≡ length l.outputs;
  front : AllZip Gives (take l.i l.outputs) (take l.i l.entries);
}
