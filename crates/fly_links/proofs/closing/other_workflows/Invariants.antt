use Rattle.std.proofs.Common.{◌≡◌, ℕ, map, filter, not, take}
use Rattle.fly_docs.specs.declared.workflow.Workflow.{Workflow}
use Rattle.fly_docs.specs.Reaching.{is_primary_place}
use Rattle.fly_links.proofs.closing.other_workflows.Given as goal

abbrev pub invariant-loop-place : goal.invariant-loop-place
invariant-loop-place l =
    map (λ w. w.now) l.others.items
    ≡ map (λ (at : ℕ × Workflow). at.1) (filter (λ (at : ℕ × Workflow). not (is_primary_place l.directory at.0))
    (map (λ at. (at.0, at.1.now)) (take l.place-index l.workflows)))
