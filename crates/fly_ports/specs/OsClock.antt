-- What contracts see of the clock of the system.
use Rattle.std.specs.Prelude.{ℕ, ◌-◌, ◌^◌, ◌/◌, min, ℤ, pos, None}
use Rattle.fly_ports.specs.Clock.{ClockState}
use Rattle.fly_ports.specs.declared.os_clock.OsClock.{OsClock}

-- a clock that tells no moments
abbrev pub clock_state : {R : Type 0} → OsClock R → ClockState
clock_state clock = record { moments = None }

-- the milliseconds in so many nanoseconds, at most the last value of an i64
abbrev pub millis_in : ℕ → ℤ
millis_in nanos = pos (min (nanos / 1_000_000) (2 ^ 63 - 1))
