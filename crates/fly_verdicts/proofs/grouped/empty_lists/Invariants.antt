use Rattle.std.proofs.Common.{[]}
use Rattle.fly_verdicts.specs.Grouped.{lists_of, HasLists}
use Rattle.fly_verdicts.proofs.grouped.empty_lists.Given as goal

abbrev pub invariant-loop-number : goal.invariant-loop-number
invariant-loop-number g l = HasLists l._number (λ i. []) (lists_of l.table.items)
