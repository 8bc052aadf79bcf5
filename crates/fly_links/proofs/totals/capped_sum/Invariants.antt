use Rattle.std.proofs.Common.{◌≡◌, ◌+◌, min, sum_by, get_or, take}
use Rattle.fly_links.proofs.totals.capped_sum.Given as goal

abbrev pub invariant-loop-place : goal.invariant-loop-place
invariant-loop-place l = l.sum ≡ min (l.own + sum_by (λ t. get_or l.totals t 0) (take l.place-index l.places)) l.cap
