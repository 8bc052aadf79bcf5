use Rattle.std.proofs.Common.{◌≡◌, map, take}
use Rattle.fly_links.specs.Reaches.{tasks_run}
use Rattle.fly_links.proofs.reach.reached_task_marks.Given as goal

abbrev pub invariant-loop-workflow : goal.invariant-loop-workflow
invariant-loop-workflow l = l.places.items ≡ tasks_run l.directory (map (λ at. at.1.now) (take l.workflow-index l.workflows))
