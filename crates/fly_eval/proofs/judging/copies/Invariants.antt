use Rattle.std.proofs.Common.{◌≡◌, replicate}
use Rattle.fly_eval.proofs.judging.copies.Given as goal

abbrev pub invariant-loop : goal.invariant-loop
invariant-loop l = l.list.items ≡ replicate l.counter l.given
