use Rattle.std.proofs.Common.{◌≡◌, ℕ, ◌<◌, false}
use Rattle.fly_state.specs.States.{phase_of, is_failure}
use Rattle.fly_state.proofs.closing.has_failure.Given as goal

abbrev pub invariant-loop-number : goal.invariant-loop-number
invariant-loop-number l = (v : ℕ) → v < l.number → is_failure (phase_of l.state v) ≡ false
