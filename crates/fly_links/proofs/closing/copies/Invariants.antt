use Rattle.std.proofs.Common.{◌≡◌, map, take}
use Rattle.fly_links.proofs.closing.copies.Given as goal

abbrev pub invariant-loop-workflow : goal.invariant-loop-workflow
invariant-loop-workflow l = l.copies.items ≡ map (λ w. w.now) (take l.workflow-index l.workflows)
