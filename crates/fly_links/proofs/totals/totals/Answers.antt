use Rattle.std.proofs.Common.{sym, subst}
use Rattle.fly_links.proofs.TotalLemmas.{AreTotals, totals_start, totals_more}
use Rattle.fly_links.proofs.totals.totals.Goals as goal

pub loop-level-init : goal.loop-level-init
loop-level-init c =
    totals_start c.args.levels c.args.targets.now c.args.own.now c.args.last.now c.args.cap c.in_ok-totals.totals.items c.requires.last c.in_ok-totals.ensures

pub loop-level-preserved : goal.loop-level-preserved
loop-level-preserved c =
    let e = c.in_ok-totals-2.ensures in
    totals_more c.loop-level.level c.args.levels c.args.targets.now c.args.own.now c.args.last.now c.args.cap c.deref.result.now
    c.in_ok-totals-2.totals.items c.loop-level-test.true c.requires.below
    (subst (AreTotals c.loop-level.level c.args.levels c.args.targets.now c.args.own.now c.args.last.now c.args.cap) (sym c.deref.ensures.value) c.loop-level.invariant)
    e.len e.capped e.each
