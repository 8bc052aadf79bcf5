use Rattle.std.proofs.Common.{◌≡◌, ℕ, ◌<◌, length, slice_index}
use Rattle.fly_graph.specs.Adjacency.{StartsAt}
use Rattle.fly_graph.proofs.adjacency.starts_of.Given as goal

abbrev pub invariant-loop-v : goal.invariant-loop-v
invariant-loop-v l = record {
  len : length l.starts.items ≡ l.v;
  each : (v : ℕ) → v < l.v → StartsAt l.edges v (slice_index l.starts.items v);
}
