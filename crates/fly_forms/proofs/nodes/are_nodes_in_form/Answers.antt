use Rattle.std.proofs.Common.{refl}
use Rattle.fly_types.proofs.Lists.{all_more, all_done}
use Rattle.fly_docs.specs.Form.{IsNodeInForm}
use Rattle.fly_forms.proofs.nodes.are_nodes_in_form.Goals as goal

pub loop-node-preserved : goal.loop-node-preserved
loop-node-preserved c =
    all_more IsNodeInForm _ _ c.node-item.result c.loop-node-test.true c.node-item.is c.loop-node.invariant
    (c.is_node_in_form.ensures.0 c.if-not-is_node_in_form.false)

pub returns : goal.returns
returns c = (λ _. all_done IsNodeInForm _ _ c.loop-node-test.false c.loop-node.invariant, λ _. refl)
