use Rattle.std.proofs.Common.{◌-◌}
use Rattle.fly_links.proofs.TotalLemmas.{AreTotals}
use Rattle.fly_links.proofs.totals.totals.Given as goal

abbrev pub invariant-loop-level : goal.invariant-loop-level
invariant-loop-level l = AreTotals l.level l.levels l.targets l.own l.last l.cap l.totals.items

abbrev pub decreases-loop-level : goal.decreases-loop-level
decreases-loop-level l = l.levels - l.level
