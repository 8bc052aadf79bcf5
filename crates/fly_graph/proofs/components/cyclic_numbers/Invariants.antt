use Rattle.std.proofs.Common.{◌≡◌, ℕ, ◌<◌, ◌↔◌, true}
use Rattle.std.specs.Prelude.{slice_index_or, false}
use Rattle.std.specs.List.{Contains, AllPairs}
use Rattle.fly_graph.proofs.components.cyclic_numbers.Given as goal

abbrev pub invariant-loop-v : goal.invariant-loop-v
invariant-loop-v l = record {
  rising : AllPairs (λ x y. x < y) l.numbers.items;
  kept : (v : ℕ) → Contains l.numbers.items v ↔ ((v < l.v) × (slice_index_or l.cyclic.items v false ≡ true));
}
