-- One layer of a node or a binding, and recursion over nodes that sees the parts themselves as well as what they gave.
use Rattle.fly_docs.specs.declared.binding.Bound.{Bound}
use Rattle.fly_docs.specs.declared.binding.Bound.TheOpen.{Bound-F}
use Rattle.fly_docs.specs.declared.node.Node.{Node, roll-Node}
use Rattle.fly_docs.specs.declared.node.Case.{Case, roll-Case}
use Rattle.fly_docs.specs.declared.node.Target.{Target, roll-Target}
use Rattle.fly_docs.specs.declared.node.Target.TheOpen.{Target-F, Case-F, Node-F}
use Rattle.fly_docs.specs.declared.node.Target.TheFolds.{fold-Node, map-Target, map-Case, map-Node}

abbrev pub BoundLayer : Type 0
BoundLayer = Bound-F Bound

-- a layer whose parts stand beside what they gave
abbrev pub TargetParts : Type 0 → Type 0
TargetParts R = Target-F (Target × R) (Case × R) (Node × R)

abbrev pub CaseParts : Type 0 → Type 0
CaseParts R = Case-F (Target × R) (Case × R) (Node × R)

abbrev pub NodeParts : Type 0 → Type 0
NodeParts R = Node-F (Target × R) (Case × R) (Node × R)

-- the parts alone
abbrev pub target_of_parts : {R : Type 0} → TargetParts R → Target
target_of_parts {R} layer =
    roll-Target (map-Target (Target × R) (Case × R) (Node × R) Target Case Node (λ part. part.0) (λ part. part.0) (λ part. part.0) layer)

abbrev pub case_of_parts : {R : Type 0} → CaseParts R → Case
case_of_parts {R} layer =
    roll-Case (map-Case (Target × R) (Case × R) (Node × R) Target Case Node (λ part. part.0) (λ part. part.0) (λ part. part.0) layer)

abbrev pub node_of_parts : {R : Type 0} → NodeParts R → Node
node_of_parts {R} layer =
    roll-Node (map-Node (Target × R) (Case × R) (Node × R) Target Case Node (λ part. part.0) (λ part. part.0) (λ part. part.0) layer)

-- what a node gives, by what each layer gives over its parts
abbrev pub node_by : (R : Type 0) → (TargetParts R → R) → (CaseParts R → R) → (NodeParts R → R) → Node → R
node_by R of_target of_case of_node n =
    let both : Node × R = fold-Node (Target × R) (Case × R) (Node × R)
    (λ layer. (target_of_parts layer, of_target layer))
    (λ layer. (case_of_parts layer, of_case layer))
    (λ layer. (node_of_parts layer, of_node layer)) n in
    both.1
