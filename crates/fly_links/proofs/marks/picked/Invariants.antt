use Rattle.std.proofs.Common.{◌≡◌, false, map, filter, get_or, take}
use Rattle.std.specs.List.{enumerate_from}
use Rattle.fly_links.proofs.marks.picked.Given as goal

abbrev pub invariant-loop-place : goal.invariant-loop-place
invariant-loop-place g l =
    map (λ at. (at.0, at.1.now)) l.picked.items ≡ filter (λ at. get_or l.marks at.0 false) (enumerate_from 0 (take l.place l.items))
