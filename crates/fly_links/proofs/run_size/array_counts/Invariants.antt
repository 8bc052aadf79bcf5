use Rattle.std.proofs.Common.{◌≡◌, map, count_by, take}
use Rattle.fly_docs.specs.Plans.{nodes_of, is_array}
use Rattle.fly_links.proofs.run_size.array_counts.Given as goal

abbrev pub invariant-loop-workflow : goal.invariant-loop-workflow
invariant-loop-workflow l = l.counts.items ≡ map (λ w. count_by is_array (nodes_of w)) (take l.workflow-index l.workflows)
