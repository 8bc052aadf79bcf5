use Rattle.std.proofs.Common.{◌≡◌, false, filter, get_or}
use Rattle.std.specs.List.{range_with_len}
use Rattle.fly_links.proofs.links.marked_places.Given as goal

abbrev pub invariant-loop-place : goal.invariant-loop-place
invariant-loop-place l = l.places.items ≡ filter (λ v. get_or l.marks v false) (range_with_len 0 l.place)
