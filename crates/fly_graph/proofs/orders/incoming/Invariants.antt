use Rattle.std.proofs.Common.{◌≡◌, ℕ, ◌<◌, ◌==◌, length, slice_index, take, count_by}
use Rattle.fly_graph.proofs.orders.incoming.Given as goal

abbrev pub invariant-loop-edge : goal.invariant-loop-edge
invariant-loop-edge l = record {
  len : length l.missing.items ≡ l.adjacency.count;
  counted : (v : ℕ) → v < l.adjacency.count → slice_index l.missing.items v ≡ count_by (λ edge. edge.1 == v) (take l.edge-index l.adjacency.edges.items);
}
