use Rattle.std.proofs.Common.{◌≡◌, ◌++◌, map, take}
use Rattle.std.specs.List.{filter_map}
use Rattle.std.specs.Option.{option_and_then}
use Rattle.fly_docs.specs.declared.node.Node.{Node}
use Rattle.fly_docs.specs.Reaching.{task_place, task_id_of}
use Rattle.fly_links.proofs.runs.push_task_runs.Given as goal

abbrev pub invariant-loop-node : goal.invariant-loop-node
invariant-loop-node l =
    l.places.items ≡ l.initial.places.items ++ filter_map (λ (n : Node). option_and_then (task_place l.directory) (task_id_of n)) (map (λ n. n.now) (take l.node-index l.node-items))
