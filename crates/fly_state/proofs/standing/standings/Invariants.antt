use Rattle.std.proofs.Common.{◌≡◌, ℕ, ◌<◌, length, get_or}
use Rattle.fly_state.specs.Standing.{known_standing, standing_of}
use Rattle.fly_state.proofs.standing.standings.Given as goal

abbrev pub invariant-loop-number : goal.invariant-loop-number
invariant-loop-number l = record {
  len : length l.known.items ≡ length l.plan.nodes;
  done : (j : ℕ) → j < l.number-index
      → known_standing l.known.items (get_or l.number-items j 0) ≡ standing_of l.plan l.state (get_or l.number-items j 0);
}
