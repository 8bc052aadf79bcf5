use Rattle.std.proofs.Common.{◌≡◌, ◌+◌, ◌-◌}
use Rattle.std.specs.List.{range_with_len}
use Rattle.fly_links.proofs.around.inner_row.Given as goal

abbrev pub invariant-loop-inner : goal.invariant-loop-inner
invariant-loop-inner l = l.places.items ≡ range_with_len (l.place + 1) (l.inner - (l.place + 1))
