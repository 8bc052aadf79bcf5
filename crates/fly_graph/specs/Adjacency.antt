-- The edges of a graph, side by side where they leave one number.
use Rattle.std.specs.Prelude.{◌≡◌, ℕ, ◌+◌, ◌<◌, ◌≤◌, ◌==◌, List, length, slice_index, slice_index_or, filter}
use Rattle.fly_graph.specs.Orders.{EndsBelow}

-- the edges that leave v
abbrev pub edges_leaving : List (ℕ × ℕ) → ℕ → List (ℕ × ℕ)
edges_leaving edges v = filter (λ edge. edge.0 == v) edges

-- the edges that leave v, or a number above it, are those from a place on
pub record StartsAt (edges : List (ℕ × ℕ)) (v place : ℕ) : Type 0 where
  pub within : place ≤ length edges
  pub before : (k : ℕ) → k < place → (slice_index_or edges k (0, 0)).0 < v
  pub after : (k : ℕ) → place ≤ k → k < length edges → v ≤ (slice_index_or edges k (0, 0)).0

-- for each number, and for the count, the place at which its edges start
pub record IsIndexed (count : ℕ) (edges : List (ℕ × ℕ)) (starts : List ℕ) : Type 0 where
  pub len : length starts ≡ count + 1
  pub each : (v : ℕ) → v ≤ count → StartsAt edges v (slice_index starts v)
  pub ends : EndsBelow count edges
