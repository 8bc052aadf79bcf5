use Rattle.std.proofs.Common.{take, length}
use Rattle.fly_verdicts.specs.Grouped.{lists_of, HasLists, settled_at}
use Rattle.fly_verdicts.proofs.grouped.settled_lists.Given as goal

abbrev pub invariant-loop-place : goal.invariant-loop-place
invariant-loop-place l =
    HasLists (length l.world.world.executions) (λ i. settled_at l.numbers i (take l.place l.world.world.entries))
    (lists_of l.table.items)
