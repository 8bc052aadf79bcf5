use Rattle.std.proofs.Common.{◌≡◌, map}
use Rattle.std.specs.List.{range_with_len}
use Rattle.fly_links.specs.Links.{joined_row}
use Rattle.fly_links.proofs.links.joined_rows.Given as goal

abbrev pub invariant-loop-place : goal.invariant-loop-place
invariant-loop-place l = l.rows.items ≡ map (joined_row l.names l.cases l.around) (range_with_len 0 l.place)
