use Rattle.std.proofs.Common.{◌≡◌, ℕ, ◌+◌, ◌<◌, ◌≤◌, [], min, sum_by, length, get_or, All}
use Rattle.fly_links.proofs.totals.one_level_more.Given as goal

abbrev pub invariant-loop-place : goal.invariant-loop-place
invariant-loop-place l = record {
  len : length l.more.items ≡ l.place;
  capped : All (λ n. n ≤ l.cap) l.more.items;
  each : (v : ℕ) → v < l.place → get_or l.more.items v 0 ≡ min (get_or l.own v 0 + sum_by (λ t. get_or l.totals t 0) (get_or l.targets v [])) l.cap;
}
