use Rattle.std.proofs.Common.{◌≡◌, ℕ, ◌<◌, false, []}
use Rattle.fly_graph.specs.Components.{state_of, IsSearch, is_unseen, mark_of}
use Rattle.fly_graph.proofs.components.cyclic_flags.Given as goal

abbrev pub invariant-loop-v : goal.invariant-loop-v
invariant-loop-v l = record {
  search : IsSearch l.adjacency.count l.adjacency.edges.items (state_of l.search);
  empty : l.search.path.items ≡ [];
  seen : (v : ℕ) → v < l.v → is_unseen (mark_of (state_of l.search) v) ≡ false;
}
