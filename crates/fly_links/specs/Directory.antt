-- The ids of a bundle's documents, by their places.
use Rattle.std.specs.Prelude.{ℕ, Bool, List, map, filter, take}
use Rattle.std.specs.List.{list_any, enumerate_from}
use Rattle.fly_docs.specs.declared.names.Identifier.{Identifier}
use Rattle.fly_docs.specs.declared.task.Task.{Task}
use Rattle.fly_docs.specs.declared.workflow.Workflow.{Workflow}
use Rattle.fly_docs.specs.declared.workflow.Bundle.{Bundle}
use Rattle.fly_docs.specs.Lookups.{is_same}

-- the ids of the tasks and of the workflows, in their order
abbrev pub task_ids : Bundle → List Identifier
task_ids b = map (λ (t : Task). t.id) b.tasks

abbrev pub workflow_ids : Bundle → List Identifier
workflow_ids b = map (λ (w : Workflow). w.id) b.workflows

-- an earlier element of the list has the id of the one at i
abbrev pub is_repeated : List Identifier → ℕ → Identifier → Bool
is_repeated ids i id = list_any (is_same id) (take i ids)

-- the places at which an id stands that an earlier one has, rising
abbrev pub repeated_places : List Identifier → List ℕ
repeated_places ids = map (λ at. at.0) (filter (λ (at : ℕ × Identifier). is_repeated ids at.0 at.1) (enumerate_from 0 ids))
