use Rattle.std.proofs.Common.{◌≡◌, map, take}
use Rattle.fly_links.specs.Tables.{key_id}
use Rattle.fly_links.proofs.directory.keys_of_workflows.Given as goal

abbrev pub invariant-loop-workflow : goal.invariant-loop-workflow
invariant-loop-workflow l = map key_id l.keys.items ≡ map (λ d. d.id) (take l.workflow-index l.workflows)
