use Rattle.fly_types.proofs.Lists.{written_more}
use Rattle.fly_types.specs.Canonical.{text_bytes}
use Rattle.fly_types.proofs.canonical_bytes.write_texts.Goals as goal

pub loop-text-preserved : goal.loop-text-preserved
loop-text-preserved c =
    written_more text_bytes _ _ c.text-item.result _ _ _ c.loop-text-test.true c.text-item.is c.loop-text.invariant c.in_ok-write_text.ensures
