-- Recursion over nodes, layer by layer.
use Rattle.std.proofs.Common.{◌≡◌, List, [], ap, ◌∙◌}
use Rattle.fly_docs.specs.declared.names.Identifier.{Identifier}
use Rattle.fly_docs.specs.declared.node.Node.{Node, out-Node}
use Rattle.fly_docs.specs.declared.node.Case.{Case}
use Rattle.fly_docs.specs.declared.node.Target.{Target, out-Target}
use Rattle.fly_docs.specs.declared.node.Target.TheOpen.{Target-F}
use Rattle.fly_docs.specs.declared.node.Target.TheFolds.{fold-Target, fold-Case, fold-Node, fold_out-Node, fold_out-Target, map-Target, map-Node}
use Rattle.fly_docs.specs.declared.workflow.Bundle.{Bundle}
use Rattle.fly_docs.specs.Layer.{TargetParts, CaseParts, NodeParts, target_of_parts, case_of_parts, node_of_parts, node_by}
use Rattle.fly_docs.specs.Plans.{inner_nodes, inside_target, inside_case, inside_node}
use Rattle.fly_docs.specs.NodeInterfaces.{Found, outputs_of, outputs_by, case_outputs, node_outputs}

module _ (R : Type 0) (of_target : TargetParts R → R) (of_case : CaseParts R → R) (of_node : NodeParts R → R) where
  abbrev target_step : TargetParts R → Target × R
  target_step layer = (target_of_parts layer, of_target layer)

  abbrev case_step : CaseParts R → Case × R
  case_step layer = (case_of_parts layer, of_case layer)

  abbrev node_step : NodeParts R → Node × R
  node_step layer = (node_of_parts layer, of_node layer)

  abbrev pub target_parts : Target → Target × R
  target_parts = fold-Target (Target × R) (Case × R) (Node × R) target_step case_step node_step

  abbrev pub case_parts : Case → Case × R
  case_parts = fold-Case (Target × R) (Case × R) (Node × R) target_step case_step node_step

  abbrev pub node_parts : Node → Node × R
  node_parts = fold-Node (Target × R) (Case × R) (Node × R) target_step case_step node_step

  pub node_by_layer : (n : Node) → node_by R of_target of_case of_node n
      ≡ of_node (map-Node Target Case Node (Target × R) (Case × R) (Node × R) target_parts case_parts node_parts (out-Node n))
  node_by_layer n = ap (λ both. both.1) (fold_out-Node (Target × R) (Case × R) (Node × R) target_step case_step node_step n)

  pub target_by_layer : (t : Target) → (target_parts t).1
      ≡ of_target (map-Target Target Case Node (Target × R) (Case × R) (Node × R) target_parts case_parts node_parts (out-Target t))
  target_by_layer t = ap (λ both. both.1) (fold_out-Target (Target × R) (Case × R) (Node × R) target_step case_step node_step t)

abbrev with_inside : Target-F Target Case Node → TargetParts (List Node)
with_inside layer =
    map-Target Target Case Node (Target × List Node) (Case × List Node) (Node × List Node)
    (target_parts (List Node) inside_target inside_case inside_node)
    (case_parts (List Node) inside_target inside_case inside_node)
    (node_parts (List Node) inside_target inside_case inside_node) layer

-- a task node has no node inside
pub inner_nodes-task : (n : Node) (id : Identifier) → out-Target n.target ≡ Target-F.Task id → inner_nodes n ≡ []
inner_nodes-task n id is =
    node_by_layer (List Node) inside_target inside_case inside_node n
    ∙ target_by_layer (List Node) inside_target inside_case inside_node n.target
    ∙ ap (λ layer. inside_target (with_inside layer)) is

-- the outputs of a task node are the task's
pub outputs_of-task : (b : Bundle) (n : Node) (id : Identifier) → out-Target n.target ≡ Target-F.Task id → outputs_of b n ≡ outputs_by b (Target-F.Task id)
outputs_of-task b n id is =
    fold_out-Node Found Found Found (outputs_by b) case_outputs node_outputs n
    ∙ fold_out-Target Found Found Found (outputs_by b) case_outputs node_outputs n.target
    ∙ ap (λ layer. outputs_by b (map-Target Target Case Node Found Found Found (fold-Target Found Found Found (outputs_by b) case_outputs node_outputs)
    (fold-Case Found Found Found (outputs_by b) case_outputs node_outputs) (outputs_of b) layer)) is
