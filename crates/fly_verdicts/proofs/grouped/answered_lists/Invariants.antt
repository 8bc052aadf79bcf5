use Rattle.std.proofs.Common.{take, length}
use Rattle.fly_verdicts.specs.Grouped.{lists_of, HasLists, answered_at}
use Rattle.fly_verdicts.proofs.grouped.answered_lists.Given as goal

abbrev pub invariant-loop-place : goal.invariant-loop-place
invariant-loop-place l =
    HasLists (length l.world.world.executions)
    (λ i. answered_at l.world.world.entries l.numbers i (take l.place l.world.world.entries)) (lists_of l.table.items)
