use Rattle.fly_faults.specs.TypeText.{text_of_type}
use Rattle.fly_faults.proofs.Loops.{listed_more}
use Rattle.fly_faults.proofs.type_text.+push_type.Goals as goal

pub push_variants-loop-place-preserved : goal.push_variants-loop-place-preserved
push_variants-loop-place-preserved t c =
    listed_more text_of_type _ _ c.index-variants-place.result _ _ _ _ c.loop-place-test.true c.index-variants-place.is c.loop-place.invariant
    c.in_ok-push_separator.ensures c.in_ok-push_type.ensures
