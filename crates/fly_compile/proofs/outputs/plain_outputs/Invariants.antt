use Rattle.std.proofs.Common.{◌≡◌, map, take}
use Rattle.fly_compile.specs.Outputs.{output_variable}
use Rattle.fly_compile.proofs.outputs.plain_outputs.Given as goal

abbrev pub invariant-loop-variable : goal.invariant-loop-variable
invariant-loop-variable l = map output_variable l.outputs.items ≡ take l.variable-index l.variables
