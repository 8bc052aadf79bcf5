use Rattle.std.proofs.Common.{◌≡◌, map, take}
use Rattle.std.specs.List.{All}
use Rattle.fly_docs.specs.NodeInterfaces.{outputs_of}
use Rattle.fly_compile.specs.Outputs.{outputs_value, AreOutputsSorted}
use Rattle.fly_compile.proofs.sources.outputs_of_nodes.Given as goal

abbrev pub invariant-loop-node : goal.invariant-loop-node
invariant-loop-node l = record {
  values : map outputs_value l.outputs.items ≡ map (λ n. outputs_of l.directory n.now) (take l.node-index l.nodes);
  sorted : All AreOutputsSorted l.outputs.items;
}
