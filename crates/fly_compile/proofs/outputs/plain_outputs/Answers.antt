use Rattle.std.proofs.Common.{refl}
use Rattle.fly_compile.specs.Outputs.{output_variable}
use Rattle.fly_compile.proofs.OutputLemmas.{taken_more}
use Rattle.fly_compile.proofs.outputs.plain_outputs.Goals as goal

pub loop-variable-preserved : goal.loop-variable-preserved
loop-variable-preserved c =
    taken_more output_variable _ _ c.variable-item.result _ _ _ c.loop-variable-test.true c.variable-item.is c.loop-variable.invariant c.in_ok-push.ensures.items refl
