-- When a timeout is over.
use Rattle.std.specs.Prelude.{ℕ, ◌<◌, ℤ, pos, ◌-ℤ◌, ◌≤ℤ◌}

-- there is a timeout, and at least so long has passed
abbrev pub IsExpired : ℤ → ℕ → ℤ → Type 0
IsExpired start timeout now = (0 < timeout) × (pos timeout ≤ℤ (now -ℤ start))
