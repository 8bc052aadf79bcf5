use Rattle.std.proofs.Common.{◌≡◌, filter}
use Rattle.std.specs.List.{range_with_len}
use Rattle.fly_links.specs.Links.{is_empty_row}
use Rattle.fly_links.proofs.links.empty_places.Given as goal

abbrev pub invariant-loop-place : goal.invariant-loop-place
invariant-loop-place l = l.places.items ≡ filter (is_empty_row l.rows) (range_with_len 0 l.place)
