use Rattle.fly_types.specs.Canonical.{text_bytes, literal_bytes, entry_bytes}
use Rattle.fly_types.proofs.Lists.{written_more, written_both}
use Rattle.fly_types.proofs.canonical_bytes.+write_literal.Goals as goal

pub write_literals-loop-literal-preserved : goal.write_literals-loop-literal-preserved
write_literals-loop-literal-preserved t c =
    written_more literal_bytes _ _ c.literal-item.result _ _ _ c.loop-literal-test.true c.literal-item.is c.loop-literal.invariant c.in_ok-write_literal.ensures

pub write_entries-loop-name-preserved : goal.write_entries-loop-name-preserved
write_entries-loop-name-preserved t c =
    written_more entry_bytes _ _ c.loop-name-item.result _ _ _ c.loop-name-test.true c.loop-name-item.is c.loop-name.invariant
    (written_both _ _ _ (text_bytes c.loop-name-item.result.0) (literal_bytes c.loop-name-item.result.1) c.in_ok-write_text.ensures c.in_ok-write_literal.ensures)
