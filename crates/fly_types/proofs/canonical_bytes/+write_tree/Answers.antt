use Rattle.fly_types.specs.Canonical.{text_bytes, tree_bytes, member_bytes}
use Rattle.fly_types.proofs.Lists.{written_more, written_both}
use Rattle.fly_types.proofs.canonical_bytes.+write_tree.Goals as goal

pub write_trees-loop-tree-preserved : goal.write_trees-loop-tree-preserved
write_trees-loop-tree-preserved t c =
    written_more tree_bytes _ _ c.tree-item.result _ _ _ c.loop-tree-test.true c.tree-item.is c.loop-tree.invariant c.in_ok-write_tree.ensures

pub write_members-loop-name-preserved : goal.write_members-loop-name-preserved
write_members-loop-name-preserved t c =
    written_more member_bytes _ _ c.loop-name-item.result _ _ _ c.loop-name-test.true c.loop-name-item.is c.loop-name.invariant
    (written_both _ _ _ (text_bytes c.loop-name-item.result.0) (tree_bytes c.loop-name-item.result.1) c.in_ok-write_text.ensures c.in_ok-write_tree.ensures)
