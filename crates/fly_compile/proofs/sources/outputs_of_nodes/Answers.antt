use Rattle.std.proofs.Common.{arith}
use Rattle.fly_compile.proofs.SourceLemmas.{all-outputs}
use Rattle.fly_compile.proofs.sources.outputs_of_nodes.Goals as goal

pub returns : goal.returns
returns c = record {
  values = all-outputs c.args.directory.now c.args.layout.now _ c.nodes-nodes.result.now c.loop-node.node-index (omega arith) c.loop-node.invariant.values c.nodes-nodes.ensures;
  sorted = c.loop-node.invariant.sorted;
  inputs = c.requires.inputs;
}
