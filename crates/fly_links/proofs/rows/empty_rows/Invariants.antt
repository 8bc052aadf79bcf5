use Rattle.std.proofs.Common.{◌≡◌, ℕ, [], length}
use Rattle.fly_links.specs.Rows.{row_at}
use Rattle.fly_links.proofs.rows.empty_rows.Given as goal

abbrev pub invariant-loop : goal.invariant-loop
invariant-loop l = record {
  len : length l.rows.items ≡ l.counter;
  each : (u : ℕ) → row_at l.rows.items u ≡ [];
}
