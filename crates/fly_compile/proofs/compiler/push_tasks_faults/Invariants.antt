use Rattle.std.proofs.Common.{◌≡◌, ◌++◌, take}
use Rattle.std.specs.List.{flat_map}
use Rattle.fly_faults.specs.FaultList.{template_faults}
use Rattle.fly_compile.proofs.compiler.push_tasks_faults.Given as goal

abbrev pub invariant-loop-task : goal.invariant-loop-task
invariant-loop-task l =
    l.faults.items ≡ l.initial.faults.items ++ flat_map (λ at. template_faults at.1.now) (take l.task-index l.tasks)
