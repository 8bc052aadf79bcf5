use Rattle.std.proofs.Common.{◌≡◌, position, take}
use Rattle.std.specs.Ordering.{is_eq}
use Rattle.std.specs.BTreeMap.{get}
use Rattle.fly_eval.proofs.tables.first_places.Given as goal

abbrev pub invariant-loop-place : goal.invariant-loop-place
invariant-loop-place g l = (key : g.row.K.Denot) → get g.K.Ord.cmp l.places key ≡ position (λ k. is_eq (g.K.Ord.cmp key k)) (take l.place l.keys)
