use Rattle.std.proofs.Common.{ℕ, ◌∙◌, ap, arith}
use Rattle.std.specs.Borrow.{Bor}
use Rattle.fly_docs.specs.declared.node.Node.{Node}
use Rattle.fly_docs.specs.Plans.{nodes_of}
use Rattle.fly_faults.specs.NodeFaults.{faults_of_node}
use Rattle.fly_faults.proofs.Loops.{numbered_more}
use Rattle.fly_compile.proofs.WorkflowSteps.{nodes_done}
use Rattle.fly_compile.proofs.workflow_faults.push_nodes_faults.Goals as goal

pub loop-index-preserved : goal.loop-index-preserved
loop-index-preserved c =
    numbered_more (λ (at : ℕ × Bor Node). faults_of_node c.args.sources.now.bundle c.args.sources.now.workflow at.0 at.1.now)
    _ _ c.index-nodes-index.result _ _ _ c.loop-index-test.true c.index-nodes-index.is c.loop-index.invariant c.in_ok-push_faults_of_node.ensures

pub returns : goal.returns
returns c =
    nodes_done c.args.sources.now.bundle c.args.sources.now.workflow c.nodes-nodes.result.now c.loop-index.index _ _ (omega arith)
    (c.nodes-nodes.ensures ∙ ap nodes_of c.layout.ensures) c.loop-index.invariant
