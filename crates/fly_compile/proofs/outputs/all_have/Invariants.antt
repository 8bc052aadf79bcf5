use Rattle.std.proofs.Common.{◌≡◌, true, take}
use Rattle.std.specs.List.{list_all}
use Rattle.fly_docs.specs.Interfaces.{has_variable}
use Rattle.fly_compile.specs.Outputs.{output_variable, known_variables}
use Rattle.fly_compile.proofs.outputs.all_have.Given as goal

abbrev pub invariant-loop-other : goal.invariant-loop-other
invariant-loop-other l = list_all (λ other. has_variable (known_variables other) (output_variable l.output)) (take l.other-index l.others) ≡ true
