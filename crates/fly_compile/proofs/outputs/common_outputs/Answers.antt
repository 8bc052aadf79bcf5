use Rattle.std.specs.List.{list_all}
use Rattle.fly_docs.specs.Interfaces.{has_variable}
use Rattle.fly_compile.specs.Outputs.{output_variable, known_variables}
use Rattle.fly_compile.proofs.OutputLemmas.{passed_more}
use Rattle.fly_compile.proofs.outputs.common_outputs.Goals as goal

pub loop-output-preserved : goal.loop-output-preserved
loop-output-preserved c =
    passed_more (λ v. list_all (λ other. has_variable (known_variables other) v) c.args.others.now) output_variable output_variable
    _ _ c.output-item.result _ _ c.loop-output-test.true c.output-item.is c.loop-output.invariant c.in_ok-push_common.ensures
