use Rattle.std.proofs.Common.{◌≡◌, take}
use Rattle.fly_docs.specs.Conditions as conditions
use Rattle.fly_compile.specs.Scopes.{source_there}
use Rattle.fly_compile.proofs.condition_faults.branch_variables.Given as goal

abbrev pub invariant-loop-x : goal.invariant-loop-x
invariant-loop-x l = l.variables.items ≡ conditions.branch_variables (source_there l.sources) (take l.x-index l.bindings)
