use Rattle.fly_faults.specs.TypeText.{quoted}
use Rattle.fly_faults.proofs.Loops.{listed_more}
use Rattle.fly_faults.proofs.type_text.push_values.Goals as goal

pub loop-place-preserved : goal.loop-place-preserved
loop-place-preserved c =
    listed_more quoted _ _ c.index-values-place.result _ _ _ _ c.loop-place-test.true c.index-values-place.is c.loop-place.invariant
    c.in_ok-push_separator.ensures c.in_ok-push_quoted.ensures
