use Rattle.std.proofs.Common.{take}
use Rattle.std.specs.List.{All}
use Rattle.fly_docs.specs.Form.{IsNodeInForm}
use Rattle.fly_forms.proofs.nodes.are_nodes_in_form.Given as goal

abbrev pub invariant-loop-node : goal.invariant-loop-node
invariant-loop-node l = All IsNodeInForm (take l.node-index l.nodes)
