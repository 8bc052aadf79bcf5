use Rattle.std.proofs.Common.{◌≡◌, vec_len}
use Rattle.flyte.proofs.crew.Given as goal

abbrev pub invariant-loop : goal.invariant-loop
invariant-loop g l = vec_len l.crew ≡ l.counter
