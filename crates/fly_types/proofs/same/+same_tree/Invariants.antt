use Rattle.std.proofs.Common.{◌≡◌, take, length}
use Rattle.fly_types.proofs.same.+same_tree.Given as goal

abbrev pub invariant-are_same_trees-loop-i : goal.invariant-are_same_trees-loop-i
invariant-are_same_trees-loop-i l = (length l.ones ≡ length l.others) × (take l.i l.ones ≡ take l.i l.others)

abbrev pub invariant-are_same_members-loop-i : goal.invariant-are_same_members-loop-i
invariant-are_same_members-loop-i l = (length l.ones ≡ length l.others) × (take l.i l.ones ≡ take l.i l.others)
