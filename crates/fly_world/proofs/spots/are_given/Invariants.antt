use Rattle.std.proofs.Common.{◌≡◌, length, drop}
use Rattle.fly_world.specs.Spots.{are_given}
use Rattle.fly_world.proofs.spots.are_given.Given as goal

abbrev pub invariant-loop-place : goal.invariant-loop-place
invariant-loop-place l = record {
  len : length l.variables ≡ length l.entries;
  rest : are_given (drop l.place l.variables) (drop l.place l.entries) ≡ are_given l.variables l.entries;
}
