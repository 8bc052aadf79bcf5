use Rattle.std.proofs.Common.{◌≡◌, ℕ, ◌<◌, true}
use Rattle.fly_state.specs.Closing.{rests}
use Rattle.fly_state.proofs.closing.is_settled.Given as goal

abbrev pub invariant-loop-number : goal.invariant-loop-number
invariant-loop-number l = (v : ℕ) → v < l.number → rests l.plan l.state v ≡ true
