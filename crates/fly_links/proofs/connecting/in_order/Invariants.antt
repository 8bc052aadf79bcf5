use Rattle.std.proofs.Common.{◌≡◌, ◌++◌}
use Rattle.fly_links.proofs.connecting.in_order.Given as goal

abbrev pub invariant-loop-entry : goal.invariant-loop-entry
invariant-loop-entry l = l.listed.items ++ l.entry-iterator ≡ l.fn.lists.entries
