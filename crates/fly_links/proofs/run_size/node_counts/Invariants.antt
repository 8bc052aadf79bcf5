use Rattle.std.proofs.Common.{◌≡◌, map, length, take}
use Rattle.fly_docs.specs.Plans.{nodes_of}
use Rattle.fly_links.proofs.run_size.node_counts.Given as goal

abbrev pub invariant-loop-workflow : goal.invariant-loop-workflow
invariant-loop-workflow l = l.counts.items ≡ map (λ w. length (nodes_of w)) (take l.workflow-index l.workflows)
