-- What an id names in a bundle. Where two tasks or two workflows have one id, the first is named.
use Rattle.std.specs.Prelude.{Bool, ◌&&◌, Option, find}
use Rattle.std.specs.Str.{bytes_eq}
use Rattle.fly_docs.specs.declared.names.Identifier.{Identifier}
use Rattle.fly_docs.specs.declared.task.Task.{Task}
use Rattle.fly_docs.specs.declared.workflow.Workflow.{Workflow}
use Rattle.fly_docs.specs.declared.workflow.Bundle.{Bundle}

-- the two name one task, or one workflow
abbrev pub is_same : Identifier → Identifier → Bool
is_same i j = bytes_eq i.project j.project && bytes_eq i.domain j.domain && bytes_eq i.name j.name && bytes_eq i.version j.version

-- the task of the bundle that has this id
abbrev pub task_named : Bundle → Identifier → Option Task
task_named b id = find (λ (t : Task). is_same t.id id) b.tasks

-- the workflow of the bundle that has this id
abbrev pub workflow_named : Bundle → Identifier → Option Workflow
workflow_named b id = find (λ (w : Workflow). is_same w.id id) b.workflows

-- the workflow that is run
abbrev pub primary_of : Bundle → Option Workflow
primary_of b = workflow_named b b.primary
