use Rattle.std.proofs.Common.{◌≡◌, map, take}
use Rattle.fly_links.proofs.closing.task_copies.Given as goal

abbrev pub invariant-loop-task : goal.invariant-loop-task
invariant-loop-task l = l.copies.items ≡ map (λ at. at.1.now) (take l.task-index l.tasks)
