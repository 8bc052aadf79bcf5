use Rattle.std.proofs.Common.{◌≡◌, map, take}
use Rattle.std.specs.List.{filter_map}
use Rattle.std.specs.Option.{option_and_then}
use Rattle.fly_docs.specs.declared.node.Node.{Node}
use Rattle.fly_docs.specs.Plans.{subworkflow_id}
use Rattle.fly_docs.specs.Reaching.{workflow_place}
use Rattle.fly_links.proofs.runs.runs_in.Given as goal

abbrev pub invariant-loop-node : goal.invariant-loop-node
invariant-loop-node l =
    l.places.items ≡ filter_map (λ (n : Node). option_and_then (workflow_place l.directory) (subworkflow_id n)) (map (λ n. n.now) (take l.node-index l.node-items))
