use Rattle.std.proofs.Common.{◌≡◌, ◌++◌, take}
use Rattle.std.specs.List.{flat_map}
use Rattle.fly_faults.specs.FaultList.{faults_of_workflow}
use Rattle.fly_compile.proofs.compiler.push_workflows_faults.Given as goal

abbrev pub invariant-loop-workflow : goal.invariant-loop-workflow
invariant-loop-workflow l =
    l.faults.items ≡ l.initial.faults.items ++ flat_map (λ at. faults_of_workflow l.directory at.1.now) (take l.workflow-index l.workflows)
