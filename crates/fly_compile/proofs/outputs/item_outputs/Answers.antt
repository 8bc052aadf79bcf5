use Rattle.std.proofs.Common.{refl}
use Rattle.fly_compile.specs.Outputs.{output_variable, item_variable}
use Rattle.fly_compile.proofs.OutputLemmas.{mapped_more}
use Rattle.fly_compile.proofs.outputs.item_outputs.Goals as goal

pub loop-variable-preserved : goal.loop-variable-preserved
loop-variable-preserved c =
    mapped_more output_variable (item_variable c.args.may_lack) _ _ c.variable-item.result _ _ _ c.loop-variable-test.true c.variable-item.is
    c.loop-variable.invariant c.in_ok-push.ensures.items refl
