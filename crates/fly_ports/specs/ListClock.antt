-- A clock in memory.
use Rattle.std.specs.Prelude.{ℕ, zero, suc, ◌-◌, ◌^◌, min, ℤ, pos, List, [], ◌∷◌, ◌++◌, length, slice_index_or, None, Some, if◌then◌else◌, nat_lt}
use Rattle.fly_ports.specs.Clock.{ClockState}

-- the moments to give, and the calls so far, up to the last value of a u64
pub record ClockMemory : Type 0 where
  pub answers : List ℤ
  pub calls : ℕ

-- the answer after so many calls: the next of the list, then its last again, and 0 where it is empty
abbrev pub answer_at : List ℤ → ℕ → ℤ
answer_at answers calls = slice_index_or answers (min calls (length answers - 1)) (pos 0)

-- the answers of the first calls
abbrev pub first_answers : List ℤ → ℕ → List ℤ
first_answers answers zero = []
first_answers answers (suc n) = first_answers answers n ++ answer_at answers n ∷ []

-- what the clock tells: its answers so far, while it knows how many those were
abbrev pub clock_state : ClockMemory → ClockState
clock_state c = record { moments = if nat_lt c.calls (2 ^ 64 - 1) then Some (first_answers c.answers c.calls) else None }
