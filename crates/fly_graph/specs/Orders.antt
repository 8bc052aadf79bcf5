-- Orders of the numbers of a graph in which each edge goes forward.
use Rattle.std.specs.Prelude.{◌≡◌, ℕ, ◌<◌, ◌≤◌, ◌↔◌, List, length, take, slice_index, All, Contains}
use Rattle.fly_graph.specs.Walks.{IsEdge, Reaches}

-- a directed graph: the numbers below count, and its edges
pub record Digraph : Type 0 where
  pub count : ℕ
  pub edges : List (ℕ × ℕ)

abbrev pub graph_of : ℕ → List (ℕ × ℕ) → Digraph
graph_of count edges = record { count = count; edges = edges }

-- each edge joins numbers of the graph
abbrev pub EndsBelow : ℕ → List (ℕ × ℕ) → Type 0
EndsBelow count edges = All (λ edge. (edge.0 < count) × (edge.1 < count)) edges

-- After the numbers of done, v is free: it isn't among them, and each number with an edge to it is.
pub record IsFree (graph : Digraph) (done : List ℕ) (v : ℕ) : Type 0 where
  pub below : v < graph.count
  pub fresh : ¬ Contains done v
  pub ready : (u : ℕ) → IsEdge graph.edges u v → Contains done u

-- of the free numbers, v is the least
pub record IsLeastFree (graph : Digraph) (done : List ℕ) (v : ℕ) : Type 0 where
  pub free : IsFree graph done v
  pub least : (w : ℕ) → IsFree graph done w → v ≤ w

-- each number of the list is the least that is free after those before it
abbrev pub TakesLeastFree : Digraph → List ℕ → Type 0
TakesLeastFree graph order =
    (i : ℕ) → i < length order → IsLeastFree graph (take i order) (slice_index order i)

-- the list has each number below count once, and no other
pub record HasEachOnce (count : ℕ) (order : List ℕ) : Type 0 where
  pub len : length order ≡ count
  pub each : (v : ℕ) → (v < count) ↔ Contains order v

-- whatever edge joins two places of the list goes to the later one
abbrev pub EdgesGoForward : List (ℕ × ℕ) → List ℕ → Type 0
EdgesGoForward edges order =
    (i j : ℕ) → i < length order → j < length order → IsEdge edges (slice_index order i) (slice_index order j) → i < j

-- no number reaches itself
abbrev pub IsAcyclic : List (ℕ × ℕ) → Type 0
IsAcyclic edges = (v : ℕ) → ¬ Reaches edges v v

-- an order of the graph
pub record IsOrder (graph : Digraph) (order : List ℕ) : Type 0 where
  pub once : HasEachOnce graph.count order
  pub forward : EdgesGoForward graph.edges order

-- the order that takes the least free number each time
pub record IsLeastOrder (graph : Digraph) (order : List ℕ) : Type 0 where
  pub once : HasEachOnce graph.count order
  pub least : TakesLeastFree graph order
