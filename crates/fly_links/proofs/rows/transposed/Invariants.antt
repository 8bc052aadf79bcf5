use Rattle.std.proofs.Common.{◌≡◌, ℕ, ◌<◌, length, take}
use Rattle.fly_links.specs.Rows.{row_at, rows_with}
use Rattle.fly_links.proofs.rows.transposed.Given as goal

abbrev pub invariant-loop-place : goal.invariant-loop-place
invariant-loop-place l = record {
  len : length l.others.items ≡ l.count;
  each : (u : ℕ) → u < l.count → row_at l.others.items u ≡ rows_with (take l.place l.rows) u;
}
