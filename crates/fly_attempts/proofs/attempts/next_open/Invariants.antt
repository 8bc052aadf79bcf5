use Rattle.std.proofs.Common.{length, ◌-◌, ◌≡◌, ◌<◌, ◌≤◌, ℕ, slice_get, Some}
use Rattle.fly_attempts.proofs.attempts.next_open.Given as goal

abbrev pub invariant-loop-number : goal.invariant-loop-number
invariant-loop-number l =
    (l.number ≤ length l.ends) × ((i : ℕ) → i < l.number → (at : ℕ) × (slice_get l.ends i ≡ Some (Some at)))

abbrev pub decreases-loop-number : goal.decreases-loop-number
decreases-loop-number l = length l.ends - l.number
