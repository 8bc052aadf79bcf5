use Rattle.std.proofs.Common.{◌≡◌, map, take}
use Rattle.fly_state.specs.Tables.{key_id}
use Rattle.fly_state.proofs.tables.task_keys.Given as goal

abbrev pub invariant-loop-task : goal.invariant-loop-task
invariant-loop-task l = map key_id l.keys.items ≡ map (λ d. d.id) (take l.task-index l.tasks)
