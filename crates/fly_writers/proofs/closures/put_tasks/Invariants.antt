use Rattle.std.proofs.Common.{◌≡◌, ◌++◌, false, map, drop}
use Rattle.serde_json.specs.View.{items_of}
use Rattle.serde_json.specs.Written.{items_text}
use Rattle.fly_writers.specs.Closures.{compiled_task_json}
use Rattle.fly_writers.proofs.closures.put_tasks.Given as goal

-- the text so far and that of what is left are those of all
abbrev pub invariant-loop-task : goal.invariant-loop-task
invariant-loop-task l =
    l.text.items ++ items_text l.later (items_of (map compiled_task_json (drop l.task-index l.tasks)))
    ≡ l.initial.text.items ++ items_text false (items_of (map compiled_task_json l.tasks))
