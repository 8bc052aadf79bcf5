use Rattle.std.specs.Prelude.{not}
use Rattle.fly_types.specs.declared.variable.Variable.{Variable}
use Rattle.fly_faults.specs.Places.{fault_at, variable_place}
use Rattle.fly_compile.specs.BoundNames.{has_name}
use Rattle.fly_faults.proofs.Loops.{filtered_more, else_first}
use Rattle.fly_compile.proofs.binding_faults.push_unbound_faults.Goals as goal

pub loop-variable-preserved : goal.loop-variable-preserved
loop-variable-preserved c =
    filtered_more (λ (v : Variable). not (has_name c.args.names.now v.name)) (λ (v : Variable). fault_at c.args.code (variable_place c.args.place.now v.name))
    _ _ c.variable-item.result _ _ _ c.loop-variable-test.true c.variable-item.is c.loop-variable.invariant
    (else_first (has_name c.args.names.now c.variable-item.result.name) _ _ _ c.in_ok-push_unbound_fault.ensures)
