use Rattle.std.proofs.Common.{◌≡◌, map, take}
use Rattle.fly_compile.specs.Outputs.{output_variable, item_variable}
use Rattle.fly_compile.proofs.outputs.item_outputs.Given as goal

abbrev pub invariant-loop-variable : goal.invariant-loop-variable
invariant-loop-variable l = map output_variable l.outputs.items ≡ map (item_variable l.may_lack) (take l.variable-index l.variables)
