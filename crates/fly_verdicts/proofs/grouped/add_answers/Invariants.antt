use Rattle.std.proofs.Common.{take}
use Rattle.fly_verdicts.proofs.GroupLemmas.{IsCitedTable}
use Rattle.fly_verdicts.proofs.grouped.add_answers.Given as goal

abbrev pub invariant-loop-cited : goal.invariant-loop-cited
invariant-loop-cited l =
    IsCitedTable l.world.world.entries l.number (take l.cited-index l.moves) l.fn.table.items l.table.items
