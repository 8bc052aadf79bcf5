-- Why a graph has no order.
use Rattle.std.specs.Prelude.{ℕ, ◌<◌, ◌↔◌, List, length, Contains}
use Rattle.std.specs.List.Sorted.{IsStrictlyIncreasing}
use Rattle.fly_graph.specs.declared.faults.GraphFault.{GraphFault}
use Rattle.fly_graph.specs.declared.faults.GraphFault.TheVariants.{Cyclic, NoMemory}
use Rattle.fly_graph.specs.Walks.{Reaches}

-- the numbers that reach themselves, rising, and there is one
pub record AreCyclic (edges : List (ℕ × ℕ)) (numbers : List ℕ) : Type 0 where
  pub some : 0 < length numbers
  pub rising : IsStrictlyIncreasing numbers
  pub each : (v : ℕ) → Contains numbers v ↔ Reaches edges v v

-- a fault for cycles tells just the numbers on them
abbrev pub HasCause : List (ℕ × ℕ) → GraphFault → Type 0
HasCause edges (Cyclic numbers) = AreCyclic edges numbers
HasCause edges NoMemory = Unit {0}
