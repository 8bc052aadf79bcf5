-- What holds of a graph with its edges in another order holds of the graph.
use Rattle.std.proofs.Common.{◌≡◌, ◌↔◌, ℕ, ◌<◌, ◌≤◌, List, length, get_or, take, arith}
use Rattle.std.specs.List.{Contains}
use Rattle.std.specs.List.Sorted.{IsPermutation, IsStrictlyIncreasing}
use Rattle.std.proofs.lemmas.List.Sorted.{Contains-permutation, All-permutation, IsPermutation-sym}
use Rattle.fly_graph.specs.Walks.{IsEdge, Reaches}
use Rattle.fly_graph.specs.Orders.{graph_of, EndsBelow, IsFree, TakesLeastFree, IsAcyclic, IsLeastOrder}
use Rattle.fly_graph.specs.Faults.{AreCyclic}
use Rattle.fly_graph.proofs.OrderLemmas.{taken_length, taken_once, acyclic_from_order, cycle_from_stuck}
use Rattle.fly_graph.proofs.WalkLemmas.{reaches_along}

module _ (count : ℕ) (edges sorted : List (ℕ × ℕ)) (same : IsPermutation edges sorted) where
  edge_to : (u v : ℕ) → IsEdge edges u v → IsEdge sorted u v
  edge_to u v edge = Contains-permutation edges sorted (u, v) same edge

  edge_from : (u v : ℕ) → IsEdge sorted u v → IsEdge edges u v
  edge_from u v edge = Contains-permutation sorted edges (u, v) (IsPermutation-sym edges sorted same) edge

  pub reaches_iff : (u v : ℕ) → Reaches sorted u v ↔ Reaches edges u v
  reaches_iff u v = (reaches_along sorted edges edge_from u v, reaches_along edges sorted edge_to u v)

  pub free_from : (done : List ℕ) (v : ℕ) → IsFree (graph_of count sorted) done v → IsFree (graph_of count edges) done v
  free_from done v is_free = record { below = is_free.below; fresh = is_free.fresh; ready = λ u edge. is_free.ready u (edge_to u v edge) }

  pub free_to : (done : List ℕ) (v : ℕ) → IsFree (graph_of count edges) done v → IsFree (graph_of count sorted) done v
  free_to done v is_free = record { below = is_free.below; fresh = is_free.fresh; ready = λ u edge. is_free.ready u (edge_from u v edge) }

  pub takes_from : (order : List ℕ) → TakesLeastFree (graph_of count sorted) order → TakesLeastFree (graph_of count edges) order
  takes_from order takes i within = record {
    free = free_from (take i order) (get_or order i 0) (takes i within).free;
    least = λ w is_free. (takes i within).least w (free_to (take i order) w is_free);
  }

  module _ (ends : EndsBelow count sorted) (order : List ℕ) (takes : TakesLeastFree (graph_of count sorted) order) where
    ends_of : EndsBelow count edges
    ends_of = All-permutation (λ (edge : ℕ × ℕ). (edge.0 < count) × (edge.1 < count)) sorted edges (IsPermutation-sym edges sorted same) ends

    pub full_order : length order ≡ count → IsLeastOrder (graph_of count edges) order
    full_order len = record { once = taken_once (graph_of count edges) order (takes_from order takes) len; least = takes_from order takes }

    pub full_acyclic : length order ≡ count → IsAcyclic edges
    full_acyclic len = acyclic_from_order (graph_of count edges) order ends_of (full_order len)

    -- where the order stops short, numbers that reach themselves are left
    pub short_cyclic : ((v : ℕ) → IsFree (graph_of count sorted) order v → ⊥) → (length order ≡ count → ⊥) → (numbers : List ℕ) → IsStrictlyIncreasing numbers
        → ((v : ℕ) → Contains numbers v ↔ Reaches sorted v v) → AreCyclic edges numbers
    short_cyclic none_left short numbers rising each =
        let few : length order ≤ count = taken_length (graph_of count sorted) order takes in
        let cycle = cycle_from_stuck (graph_of count sorted) ends order none_left (omega (arith, short)) in
        let has = (each cycle.0).1 cycle.1 in
        record {
          some = let low : has.0 < length numbers = has.1 in omega arith;
          rising = rising;
          each = λ v. (λ among. (reaches_iff v v).0 ((each v).0 among), λ walk. (each v).1 ((reaches_iff v v).1 walk));
        }
