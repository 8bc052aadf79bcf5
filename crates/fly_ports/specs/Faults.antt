-- Counts of faults.
use Rattle.std.specs.Prelude.{ℕ, ◌+◌, ◌-◌, ◌^◌, ◌≤◌, min, Bool, ◌==◌, List}
use Rattle.std.specs.List.{list_any}

-- the count after one more, up to the last value of a u64
abbrev pub next_count : ℕ → ℕ
next_count n = min (n + 1) (2 ^ 64 - 1)

-- a count went up, or stands at the last value of a u64
pub record Rises (old new : ℕ) : Type 0 where
  pub later : old ≤ new
  pub next : next_count old ≤ new

-- the call with this number is to fail
abbrev pub is_bad : List ℕ → ℕ → Bool
is_bad bad number = list_any (λ n. n == number) bad
