use Rattle.std.proofs.Common.{◌++◌, codes}
use Rattle.fly_faults.specs.declared.fault.Code.TheVariants as code
use Rattle.fly_faults.specs.BindingFaults.{is_no_variable}
use Rattle.fly_faults.specs.Places.{fault_with}
use Rattle.fly_compile.specs.Promises.{known}
use Rattle.fly_faults.proofs.Loops.{filtered_more}
use Rattle.fly_compile.proofs.binding_faults.push_variable_faults.Goals as goal

pub loop-promise-preserved : goal.loop-promise-preserved
loop-promise-preserved c =
    filtered_more (λ promise. is_no_variable (known promise).1)
    (λ promise. fault_with code.VariableNotFound c.args.place.now ((known promise).0.0 ++ codes "." ++ (known promise).0.1))
    _ _ c.promise-item.result _ _ _ c.loop-promise-test.true c.promise-item.is c.loop-promise.invariant c.in_ok-push_variable_fault.ensures
