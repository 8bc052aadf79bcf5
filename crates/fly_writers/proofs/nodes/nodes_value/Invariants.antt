use Rattle.std.proofs.Common.{◌≡◌, map, take}
use Rattle.fly_writers.specs.Built.{elements_of}
use Rattle.fly_writers.specs.Nodes.{node_json}
use Rattle.fly_writers.proofs.nodes.nodes_value.Given as goal

abbrev pub invariant-loop-node : goal.invariant-loop-node
invariant-loop-node l = elements_of l.values ≡ map node_json (take l.node-index l.nodes)
