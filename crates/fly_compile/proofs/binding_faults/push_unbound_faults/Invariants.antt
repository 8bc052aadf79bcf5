use Rattle.std.proofs.Common.{◌≡◌, ◌++◌, map, take, filter}
use Rattle.std.specs.Prelude.{not}
use Rattle.fly_types.specs.declared.variable.Variable.{Variable}
use Rattle.fly_faults.specs.Places.{fault_at, variable_place}
use Rattle.fly_compile.specs.BoundNames.{has_name}
use Rattle.fly_compile.proofs.binding_faults.push_unbound_faults.Given as goal

abbrev pub invariant-loop-variable : goal.invariant-loop-variable
invariant-loop-variable l =
    l.faults.items ≡ l.initial.faults.items
    ++ map (λ (v : Variable). fault_at l.code (variable_place l.place v.name)) (filter (λ (v : Variable). not (has_name l.names v.name)) (take l.variable-index l.variables))
