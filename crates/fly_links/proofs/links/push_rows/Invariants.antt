use Rattle.std.proofs.Common.{◌≡◌, ◌++◌, take}
use Rattle.std.specs.List.{flat_map}
use Rattle.fly_links.specs.Rows.{row_at}
use Rattle.fly_links.proofs.links.push_rows.Given as goal

abbrev pub invariant-loop-place : goal.invariant-loop-place
invariant-loop-place l = l.joined.items ≡ l.initial.joined.items ++ flat_map (row_at l.rows)
    (take l.place-index l.places)
