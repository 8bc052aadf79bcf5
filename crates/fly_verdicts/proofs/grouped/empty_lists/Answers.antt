use Rattle.fly_verdicts.proofs.GroupLemmas.{empty-pushed}
use Rattle.fly_verdicts.proofs.grouped.empty_lists.Goals as goal

pub loop-number-preserved : goal.loop-number-preserved
loop-number-preserved g c =
    empty-pushed c.loop-number._number c.loop-number.table.items c.push.new.self.items c.new.result c.in_ok-push.ensures.items
    c.new.ensures.items c.loop-number.invariant
