use Rattle.std.proofs.Common.{◌≡◌, map, min, take}
use Rattle.fly_links.proofs.totals.capped.Given as goal

abbrev pub invariant-loop-number : goal.invariant-loop-number
invariant-loop-number l = l.capped.items ≡ map (λ n. min n l.cap) (take l.number-index l.numbers)
