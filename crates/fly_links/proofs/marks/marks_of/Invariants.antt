use Rattle.std.proofs.Common.{◌≡◌, ℕ, ◌<◌, false, eqb, length, get_or, take}
use Rattle.std.specs.List.{list_any}
use Rattle.fly_links.proofs.marks.marks_of.Given as goal

abbrev pub invariant-loop-place : goal.invariant-loop-place
invariant-loop-place l = record {
  len : length l.marks.items ≡ l.count;
  each : (v : ℕ) → v < l.count → get_or l.marks.items v false ≡ list_any (λ place. eqb place v) (take l.place-index l.places);
}
