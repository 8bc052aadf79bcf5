use Rattle.std.proofs.Common.{◌≡◌, map, filter, take}
use Rattle.std.specs.List.{list_all}
use Rattle.fly_docs.specs.Interfaces.{has_variable}
use Rattle.fly_compile.specs.Outputs.{output_variable, known_variables}
use Rattle.fly_compile.proofs.outputs.common_outputs.Given as goal

abbrev pub invariant-loop-output : goal.invariant-loop-output
invariant-loop-output l =
    map output_variable l.common.items
    ≡ filter (λ v. list_all (λ other. has_variable (known_variables other) v) l.others) (map output_variable (take l.output-index l.outputs))
