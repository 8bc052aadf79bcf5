use Rattle.std.proofs.Common.{◌≡◌, take, length}
use Rattle.fly_types.proofs.same.+same_type.Given as goal

abbrev pub invariant-are_same_types-loop-i : goal.invariant-are_same_types-loop-i
invariant-are_same_types-loop-i l = (length l.ones ≡ length l.others) × (take l.i l.ones ≡ take l.i l.others)
