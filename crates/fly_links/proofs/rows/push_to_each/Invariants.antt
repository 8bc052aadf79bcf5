use Rattle.std.proofs.Common.{◌≡◌, ℕ, ◌<◌, length, take}
use Rattle.fly_links.specs.Rows.{has_place, row_at, with_place}
use Rattle.fly_links.proofs.rows.push_to_each.Given as goal

abbrev pub invariant-loop-target : goal.invariant-loop-target
invariant-loop-target l = record {
  len : length l.rows.items ≡ length l.initial.rows.items;
  each : (u : ℕ) → u < length l.initial.rows.items → row_at l.rows.items u ≡ with_place
      (has_place (take l.target-index l.targets) u) (row_at l.initial.rows.items u) l.place;
}
