-- A spawner in memory whose children add.
use Rattle.std.specs.Prelude.{◌≡◌, ℕ, ◌+◌, ◌%◌, ◌^◌, ◌<◌, pos, List, [], ◌∷◌, All, codes, Some, Ok}
use Rattle.fly_types.specs.declared.literals.Literal.TheVariants as literal
use Rattle.fly_types.specs.declared.literals.LiteralMap.{LiteralMap}
use Rattle.fly_ports.specs.Spawner.{SpawnerState}
use Rattle.fly_ports.specs.declared.spawner.Ended.{Ended}
use Rattle.fly_ports.specs.declared.spawner.Run.{Run}
use Rattle.fly_writers.specs.Literals.{literal_map_text}
use Rattle.fly_idl.specs.Reading.{ReadsLiteralMap}

-- no run fails
abbrev pub adder_state : List Run → SpawnerState
adder_state runs = record { runs = Some runs; faults = 0 }

-- sums stay below this
abbrev pub sum_limit : ℕ
sum_limit = 1_000_000

abbrev pub summands : ℕ → ℕ → LiteralMap
summands x y = record { entries = (codes "x", literal.Integer (pos x)) ∷ (codes "y", literal.Integer (pos y)) ∷ [] }

abbrev pub output : ℕ → LiteralMap
output z = record { entries = (codes "z", literal.Integer (pos z)) ∷ [] }

abbrev pub sum_of : ℕ → ℕ → LiteralMap
sum_of x y = output ((x + y) % sum_limit)

-- the end of a child that wrote these outputs
abbrev pub end_with : LiteralMap → Ended
end_with outputs = record { status = Some (pos 0); out = literal_map_text outputs }

-- the end of a child that found no summands
abbrev pub end_without : Ended
end_without = record { status = Some (pos 1); out = [] }

-- two summands are answered by their sum, and any other literals by the status 1
pub record IsEndOf (inputs : LiteralMap) (ended : Ended) : Type 0 where
  pub sum : (x y : ℕ) → inputs ≡ summands x y → ended ≡ end_with (sum_of x y)
  pub other : ((x y : ℕ) → inputs ≡ summands x y → ⊥) → ended ≡ end_without

-- the same of what the bytes are read as; no document is no summands
pub record IsAnswer (input : List ℕ) (ended : Ended) : Type 0 where
  pub sum : (x y : ℕ) → ReadsLiteralMap input (summands x y) → ended ≡ end_with (sum_of x y)
  pub other : ((x y : ℕ) → ReadsLiteralMap input (summands x y) → ⊥) → ended ≡ end_without

-- a run whose child answered so
pub record IsAnswered (r : Run) : Type 0 where
  pub ended : Ended
  pub answer : r.answer ≡ Ok ended
  pub is : IsAnswer r.input ended

-- of two summands as they are written, each of which a whole number of 64 bits holds, it answered their sum
abbrev pub IsSum : Run → Type 0
IsSum r =
    (x y : ℕ) → x < 2 ^ 63 → y < 2 ^ 63 → r.input ≡ literal_map_text (summands x y)
    → r.answer ≡ Ok (end_with (sum_of x y))

-- each run did so
abbrev pub AreSums : List Run → Type 0
AreSums runs = All IsSum runs
