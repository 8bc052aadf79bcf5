use Rattle.std.proofs.Common.{take}
use Rattle.std.specs.List.{All}
use Rattle.fly_docs.specs.Form.{IsTaskInForm}
use Rattle.fly_forms.proofs.bundle.are_tasks_in_form.Given as goal

abbrev pub invariant-loop-task : goal.invariant-loop-task
invariant-loop-task l = All IsTaskInForm (take l.task-index l.tasks)
