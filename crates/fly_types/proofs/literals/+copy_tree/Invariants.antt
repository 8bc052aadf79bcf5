use Rattle.std.proofs.Common.{◌≡◌, take}
use Rattle.fly_types.proofs.literals.+copy_tree.Given as goal

abbrev pub invariant-copy_trees-loop-tree : goal.invariant-copy_trees-loop-tree
invariant-copy_trees-loop-tree l = l.copied.items ≡ take l.tree-index l.trees

abbrev pub invariant-copy_members-loop-name : goal.invariant-copy_members-loop-name
invariant-copy_members-loop-name l = l.copied.items ≡ take l.name-index l.members
