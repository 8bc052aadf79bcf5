use Rattle.std.proofs.Common.{◌≡◌, ℕ, ◌+◌, ◌<◌, ◌==◌, ◌&&◌, ◌||◌, nat_lt, length, slice_index, take, count_by}
use Rattle.std.specs.Ordering.{nat_cmp}
use Rattle.std.specs.BTreeSet.{contains}
use Rattle.fly_graph.proofs.orders.release.Given as goal

abbrev pub invariant-loop-edge : goal.invariant-loop-edge
invariant-loop-edge l = record {
  taken : (v : ℕ) → v < length l.missing → slice_index l.missing v + count_by (λ edge. edge.1 == v) (take l.edge-index l.leaving) ≡ slice_index l.fn.missing v;
  freed : (v : ℕ) → contains nat_cmp l.free v ≡ (contains nat_cmp l.fn.free v || (nat_lt 0 (count_by (λ edge. edge.1 == v) (take l.edge-index l.leaving)) && (slice_index l.missing v == 0)));
}
