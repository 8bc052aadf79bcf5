use Rattle.std.proofs.Common.{◌≡◌, take, length}
use Rattle.fly_types.proofs.same.+same_literal.Given as goal

abbrev pub invariant-are_same_literals-loop-i : goal.invariant-are_same_literals-loop-i
invariant-are_same_literals-loop-i l = (length l.ones ≡ length l.others) × (take l.i l.ones ≡ take l.i l.others)

abbrev pub invariant-are_same_entries-loop-i : goal.invariant-are_same_entries-loop-i
invariant-are_same_entries-loop-i l = (length l.ones ≡ length l.others) × (take l.i l.ones ≡ take l.i l.others)
