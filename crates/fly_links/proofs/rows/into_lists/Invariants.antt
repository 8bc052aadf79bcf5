use Rattle.std.proofs.Common.{◌≡◌}
use Rattle.fly_links.proofs.rows.into_lists.Given as goal

abbrev pub invariant-loop-row : goal.invariant-loop-row
invariant-loop-row l = l.lists.items ≡ l.yielded
