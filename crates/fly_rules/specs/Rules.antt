-- Values that follow edges: each number has one by the values of the numbers that it looks at. Along an acyclic graph a rule of this form has
-- exactly one solution.
use Rattle.std.specs.Prelude.{◌≡◌, ℕ, zero, suc, ◌<◌, List, [], map, flat_map, Contains}
use Rattle.std.specs.List.{range_with_len}
use Rattle.fly_graph.specs.Orders.{IsAcyclic}

-- what each number looks at, and its value by what it sees there: each of these numbers with its value, in this order
pub record Rule (V : Type 0) : Type 0 where
  pub looks : ℕ → List ℕ
  pub value : ℕ → List (ℕ × V) → V

-- the numbers, each with its value
abbrev pub values_at : {V : Type 0} → (ℕ → V) → List ℕ → List (ℕ × V)
values_at f numbers = map (λ u. (u, f u)) numbers

-- the value that the rule gives a number where the others have these values
abbrev pub value_by : {V : Type 0} → Rule V → (ℕ → V) → ℕ → V
value_by rule f v = rule.value v (values_at f (rule.looks v))

-- the numbers below count have the values that the rule gives them
abbrev pub IsSolution : {V : Type 0} → Rule V → ℕ → (ℕ → V) → Type 0
IsSolution rule count f = (v : ℕ) → v < count → f v ≡ value_by rule f v

-- ---- where a rule has a solution

-- the edges (u, v): v looks at u
abbrev pub look_edges : (ℕ → List ℕ) → ℕ → List (ℕ × ℕ)
look_edges looks count = flat_map (λ v. map (λ u. (u, v)) (looks v)) (range_with_len 0 count)

-- the numbers below count look at each other alone, and no number is led back to itself
pub record IsGrounded (looks : ℕ → List ℕ) (count : ℕ) : Type 0 where
  pub within : (v u : ℕ) → v < count → Contains (looks v) u → u < count
  pub acyclic : IsAcyclic (look_edges looks count)

-- ---- the solution

-- with so many edges to follow back: behind the last one nothing is seen
unfoldable pub value_within : {V : Type 0} → Rule V → ℕ → ℕ → V
value_within rule zero v = rule.value v []
value_within rule (suc n) v = value_by rule (value_within rule n) v

-- no walk along an acyclic graph has more edges than the graph has numbers
unfoldable pub solution_of : {V : Type 0} → Rule V → ℕ → ℕ → V
solution_of rule count v = value_within rule count v
