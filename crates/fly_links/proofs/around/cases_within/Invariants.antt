use Rattle.std.proofs.Common.{◌≡◌, map, take}
use Rattle.fly_links.specs.Around.{last_alone}
use Rattle.fly_links.proofs.around.cases_within.Given as goal

abbrev pub invariant-loop-row : goal.invariant-loop-row
invariant-loop-row l = l.innermost.items ≡ map last_alone (take l.row-index l.around)
