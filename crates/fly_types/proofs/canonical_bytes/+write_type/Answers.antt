use Rattle.fly_types.specs.Canonical.{type_bytes}
use Rattle.fly_types.proofs.Lists.{written_more}
use Rattle.fly_types.proofs.canonical_bytes.+write_type.Goals as goal

pub write_types-loop-kind-preserved : goal.write_types-loop-kind-preserved
write_types-loop-kind-preserved t c =
    written_more type_bytes _ _ c.kind-item.result _ _ _ c.loop-kind-test.true c.kind-item.is c.loop-kind.invariant c.in_ok-write_type.ensures
