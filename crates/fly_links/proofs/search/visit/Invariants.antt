use Rattle.std.proofs.Common.{take}
use Rattle.fly_links.specs.Search.{Visits}
use Rattle.fly_links.proofs.search.visit.Given as goal

abbrev pub invariant-loop-target : goal.invariant-loop-target
invariant-loop-target l = Visits (take l.target-index l.targets) l.initial.seen l.initial.pending.items l.seen l.pending.items
