use Rattle.std.proofs.Common.{All, take}
use Rattle.fly_docs.specs.declared.node.Node.{Node}
use Rattle.fly_docs.specs.declared.node.Target.{out-Target}
use Rattle.fly_docs.specs.Names.{IsId}
use Rattle.fly_docs.specs.Readable.{IsTaskTarget}
use Rattle.fly_state.proofs.plan.Plan.expands.Given as goal

abbrev pub invariant-loop-node : goal.invariant-loop-node
invariant-loop-node l = All (λ (n : Node). IsTaskTarget (out-Target n.target) × IsId n.id) (take l.node-index l.nodes)
