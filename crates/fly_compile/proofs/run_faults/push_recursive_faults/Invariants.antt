use Rattle.std.proofs.Common.{◌≡◌, ◌++◌, map, take}
use Rattle.fly_faults.specs.declared.fault.Code.TheVariants as code
use Rattle.fly_faults.specs.Places.{workflow_name, fault_at}
use Rattle.fly_compile.proofs.run_faults.push_recursive_faults.Given as goal

abbrev pub invariant-loop-workflow : goal.invariant-loop-workflow
invariant-loop-workflow l =
    l.faults.items ≡ l.initial.faults.items
    ++ map (λ at. fault_at code.RecursiveWorkflow (workflow_name at.1.now)) (take l.workflow-index l.recursive)
