use Rattle.std.proofs.Common.{◌≡◌, ◌++◌, map, take}
use Rattle.std.specs.List.{concat}
use Rattle.fly_types.specs.Canonical.{tree_bytes, member_bytes}
use Rattle.fly_types.proofs.canonical_bytes.+write_tree.Given as goal

abbrev pub invariant-write_trees-loop-tree : goal.invariant-write_trees-loop-tree
invariant-write_trees-loop-tree l = l.out.items ≡ l.initial.out.items ++ concat (map tree_bytes (take l.tree-index l.trees))

abbrev pub invariant-write_members-loop-name : goal.invariant-write_members-loop-name
invariant-write_members-loop-name l = l.out.items ≡ l.initial.out.items ++ concat (map member_bytes (take l.name-index l.members))
