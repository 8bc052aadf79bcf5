use Rattle.std.proofs.Common.{◌≡◌, ℕ, ◌<◌, ◌&&◌, false, length, get_or}
use Rattle.fly_links.proofs.marks.both_marked.Given as goal

abbrev pub invariant-loop-place : goal.invariant-loop-place
invariant-loop-place l = record {
  len : length l.marks.items ≡ l.place;
  each : (v : ℕ) → v < l.place → get_or l.marks.items v false ≡ (get_or l.first v false && get_or l.second v false);
}
