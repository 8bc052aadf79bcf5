-- The moments of a clock.
use Rattle.std.specs.Prelude.{◌≡◌, ◌+◌, ◌-◌, ◌^◌, ℤ, List, [], ◌∷◌, ◌++◌, length, Option, None, Some, if◌then◌else◌, nat_lt}
use Rattle.std.specs.Option.{option_and_then}

-- the moments that the clock gave so far, where it tells them
pub record ClockState : Type 0 where
  pub moments : Option (List ℤ)

-- a list with one moment more; it is shorter than the last value of a u64, or not told any longer
abbrev pub moments_with : List ℤ → ℤ → Option (List ℤ)
moments_with moments moment = if nat_lt (length moments + 1) (2 ^ 64 - 1) then Some (moments ++ moment ∷ []) else None

-- the clock gave this moment
abbrev pub Gives : ClockState → ClockState → ℤ → Type 0
Gives old new moment = new.moments ≡ option_and_then (λ moments. moments_with moments moment) old.moments
