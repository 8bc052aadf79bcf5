use Rattle.std.proofs.Common.{◌≡◌, ℕ, ◌<◌, nat_eq, length, slice_index_or, take, if◌then◌else◌}
use Rattle.std.specs.List.{list_any}
use Rattle.fly_graph.proofs.components.assign.Given as goal

abbrev pub invariant-loop-number : goal.invariant-loop-number
invariant-loop-number g l = (v : ℕ) (d : g.row.T.Denot) → v < length l.values
    → slice_index_or l.values v d ≡ (if list_any (nat_eq v) (take l.number-index l.numbers) then l.value else slice_index_or l.fn.values v d)
