use Rattle.std.proofs.Common.{◌≡◌, map, take}
use Rattle.fly_links.specs.Tables.{key_id}
use Rattle.fly_links.proofs.directory.keys_of_tasks.Given as goal

abbrev pub invariant-loop-task : goal.invariant-loop-task
invariant-loop-task l = map key_id l.keys.items ≡ map (λ d. d.id) (take l.task-index l.tasks)
