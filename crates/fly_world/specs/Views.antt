-- Which executions a read goes over.
use Rattle.std.specs.Prelude.{ℕ, not, take, drop, find, Option}
use Rattle.std.specs.List.{enumerate_from}
use Rattle.fly_world.specs.World.{World, Execution, is_over}

-- the first execution that is not over, of those from a number on and below another
abbrev pub first_between : World → ℕ → ℕ → Option (ℕ × Execution)
first_between w from end =
    find (λ (at : ℕ × Execution). not (is_over at.1)) (drop from (take end (enumerate_from 0 w.executions)))
