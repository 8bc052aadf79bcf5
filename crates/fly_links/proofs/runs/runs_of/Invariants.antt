use Rattle.std.proofs.Common.{◌≡◌, map, take}
use Rattle.fly_docs.specs.Reaching.{run_places}
use Rattle.fly_links.proofs.runs.runs_of.Given as goal

abbrev pub invariant-loop-workflow : goal.invariant-loop-workflow
invariant-loop-workflow l = l.runs.items ≡ map (run_places l.directory) (take l.workflow-index l.workflows)
