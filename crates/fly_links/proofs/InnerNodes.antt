-- The nodes inside a node, layer by layer.
use Rattle.std.proofs.Common.{◌≡◌, List, [], ◌∷◌, ◌++◌, map, flat_map, Some, None, refl, ap, ap₂, ◌∙◌, subst}
use Rattle.fly_docs.specs.declared.node.Node.{Node, roll-Node}
use Rattle.fly_docs.specs.declared.node.Case.{Case, roll-Case}
use Rattle.fly_docs.specs.declared.node.Target.{Target, roll-Target, out-Target}
use Rattle.fly_docs.specs.declared.node.Target.TheOpen.{Target-F, Case-F, Node-F}
use Rattle.fly_docs.specs.declared.node.Target.TheFolds.{ind-Node, fold-roll-Target, fold-roll-Case, fold-roll-Node, fold_out-Case, map-Node, map-Target, map-Case}
use Rattle.fly_docs.specs.Layer.{TargetParts, CaseParts, NodeParts, target_of_parts, case_of_parts, node_of_parts}
use Rattle.fly_docs.specs.Plans.{inside_target, inside_case, inside_node, inner_nodes}
use Rattle.fly_docs.proofs.NodeLemmas.{target_parts, case_parts, node_parts, node_by_layer, target_by_layer}
use Rattle.fly_links.specs.Layout.{case_node, inside_layer, inside}

-- ---- a node is the first of its parts

abbrev parts_of_target : Target → Target × List Node
parts_of_target = target_parts (List Node) inside_target inside_case inside_node

abbrev parts_of_case : Case → Case × List Node
parts_of_case = case_parts (List Node) inside_target inside_case inside_node

abbrev parts_of_node : Node → Node × List Node
parts_of_node = node_parts (List Node) inside_target inside_case inside_node

abbrev target_with : Target-F Target Case Node → TargetParts (List Node)
target_with = map-Target Target Case Node (Target × List Node) (Case × List Node) (Node × List Node) parts_of_target parts_of_case parts_of_node

abbrev case_with : Case-F Target Case Node → CaseParts (List Node)
case_with = map-Case Target Case Node (Target × List Node) (Case × List Node) (Node × List Node) parts_of_target parts_of_case parts_of_node

abbrev node_with : Node-F Target Case Node → NodeParts (List Node)
node_with = map-Node Target Case Node (Target × List Node) (Case × List Node) (Node × List Node) parts_of_target parts_of_case parts_of_node

abbrev target_step_of : TargetParts (List Node) → Target × List Node
target_step_of layer = (target_of_parts layer, inside_target layer)

abbrev case_step_of : CaseParts (List Node) → Case × List Node
case_step_of layer = (case_of_parts layer, inside_case layer)

abbrev node_step_of : NodeParts (List Node) → Node × List Node
node_step_of layer = (node_of_parts layer, inside_node layer)

target_roll : (x : Target-F Target Case Node) → parts_of_target (roll-Target x) ≡ target_step_of (target_with x)
target_roll x = fold-roll-Target (Target × List Node) (Case × List Node) (Node × List Node) target_step_of case_step_of node_step_of x

case_roll : (x : Case-F Target Case Node) → parts_of_case (roll-Case x) ≡ case_step_of (case_with x)
case_roll x = fold-roll-Case (Target × List Node) (Case × List Node) (Node × List Node) target_step_of case_step_of node_step_of x

node_roll : (x : Node-F Target Case Node) → parts_of_node (roll-Node x) ≡ node_step_of (node_with x)
node_roll x = fold-roll-Node (Target × List Node) (Case × List Node) (Node × List Node) target_step_of case_step_of node_step_of x

abbrev SameTarget : Target → Type 0
SameTarget t = (parts_of_target t).0 ≡ t

abbrev SameCase : Case → Type 0
SameCase c = (parts_of_case c).0 ≡ c

abbrev SameNode : Node → Type 0
SameNode n = (parts_of_node n).0 ≡ n

abbrev fronts : {A : Type 0} {P : A → Type 0} → List ((a : A) × P a) → List A
fronts xs = map (λ e. e.0) xs

same_cases : (cs : List ((c : Case) × SameCase c)) → map (λ (part : Case × List Node). part.0) (map parts_of_case (map (λ e. e.0) cs)) ≡ map (λ e. e.0) cs
same_cases [] = refl
same_cases (c ∷ cs) = λ i. c.1 i ∷ same_cases cs i

abbrev target_fronts : Target-F ((t : Target) × SameTarget t) ((c : Case) × SameCase c) ((n : Node) × SameNode n) → Target-F Target Case Node
target_fronts = map-Target ((t : Target) × SameTarget t) ((c : Case) × SameCase c) ((n : Node) × SameNode n) Target Case Node (λ e. e.0) (λ e. e.0) (λ e. e.0)

abbrev first_parts : TargetParts (List Node) → Target-F Target Case Node
first_parts = map-Target (Target × List Node) (Case × List Node) (Node × List Node) Target Case Node (λ part. part.0) (λ part. part.0) (λ part. part.0)

same_layer : (y : Target-F ((t : Target) × SameTarget t) ((c : Case) × SameCase c) ((n : Node) × SameNode n))
    → first_parts (target_with (target_fronts y)) ≡ target_fronts y
same_layer (Target-F.Task id) = refl
same_layer (Target-F.Workflow id) = refl
same_layer (Target-F.Array id min_successes) = refl
same_layer (Target-F.Branch cases None error) = λ i. Target-F.Branch (same_cases cases i) None error
same_layer (Target-F.Branch cases (Some n) error) = λ i. Target-F.Branch (same_cases cases i) (Some (n.1 i)) error

abbrev case_fronts : Case-F ((t : Target) × SameTarget t) ((c : Case) × SameCase c) ((n : Node) × SameNode n) → Case-F Target Case Node
case_fronts = map-Case ((t : Target) × SameTarget t) ((c : Case) × SameCase c) ((n : Node) × SameNode n) Target Case Node (λ e. e.0) (λ e. e.0) (λ e. e.0)

abbrev first_case_parts : CaseParts (List Node) → Case-F Target Case Node
first_case_parts = map-Case (Target × List Node) (Case × List Node) (Node × List Node) Target Case Node (λ part. part.0) (λ part. part.0) (λ part. part.0)

same_case_layer : (y : Case-F ((t : Target) × SameTarget t) ((c : Case) × SameCase c) ((n : Node) × SameNode n))
    → first_case_parts (case_with (case_fronts y)) ≡ case_fronts y
same_case_layer y = λ i. record { condition = y.condition; then = y.then.1 i }

abbrev node_fronts : Node-F ((t : Target) × SameTarget t) ((c : Case) × SameCase c) ((n : Node) × SameNode n) → Node-F Target Case Node
node_fronts = map-Node ((t : Target) × SameTarget t) ((c : Case) × SameCase c) ((n : Node) × SameNode n) Target Case Node (λ e. e.0) (λ e. e.0) (λ e. e.0)

abbrev first_node_parts : NodeParts (List Node) → Node-F Target Case Node
first_node_parts = map-Node (Target × List Node) (Case × List Node) (Node × List Node) Target Case Node (λ part. part.0) (λ part. part.0) (λ part. part.0)

same_node_layer : (y : Node-F ((t : Target) × SameTarget t) ((c : Case) × SameCase c) ((n : Node) × SameNode n))
    → first_node_parts (node_with (node_fronts y)) ≡ node_fronts y
same_node_layer y =
    λ i. record { id = y.id; timeout_ms = y.timeout_ms; retries = y.retries; inputs = y.inputs; upstream = y.upstream; target = y.target.1 i }

pub same_node : (n : Node) → SameNode n
same_node = ind-Node SameTarget SameCase SameNode
    (λ x y is. ap (λ parts. parts.0) (target_roll x) ∙ ap roll-Target (subst (λ z. first_parts (target_with z) ≡ z) is (same_layer y)))
    (λ x y is. ap (λ parts. parts.0) (case_roll x) ∙ ap roll-Case (subst (λ z. first_case_parts (case_with z) ≡ z) is (same_case_layer y)))
    (λ x y is. ap (λ parts. parts.0) (node_roll x) ∙ ap roll-Node (subst (λ z. first_node_parts (node_with z) ≡ z) is (same_node_layer y)))

-- ---- the layer of a branch

-- what a case has: its node, and what is inside that
case_inside : (c : Case) → (parts_of_case c).1 ≡ case_node c ∷ inner_nodes (case_node c)
case_inside c =
    ap (λ parts. parts.1) (fold_out-Case (Target × List Node) (Case × List Node) (Node × List Node) target_step_of case_step_of node_step_of c)
    ∙ ap (λ n. n ∷ inner_nodes (case_node c)) (same_node (case_node c))

cases_inside : (cs : List Case) → flat_map (λ (part : Case × List Node). part.1) (map parts_of_case cs) ≡ flat_map (λ c. case_node c ∷ inner_nodes (case_node c)) cs
cases_inside [] = refl
cases_inside (c ∷ cs) = ap₂ (λ xs ys. xs ++ ys) (case_inside c) (cases_inside cs)

layer_inside : (x : Target-F Target Case Node) → inside_target (target_with x) ≡ inside_layer x
layer_inside (Target-F.Task id) = refl
layer_inside (Target-F.Workflow id) = refl
layer_inside (Target-F.Array id min_successes) = refl
layer_inside (Target-F.Branch cases None error) = ap (λ xs. xs ++ []) (cases_inside cases)
layer_inside (Target-F.Branch cases (Some n) error) =
    ap₂ (λ xs m. xs ++ ((m ∷ inner_nodes n) ++ [])) (cases_inside cases) (same_node n)

-- the nodes inside a node are those inside its target
pub inner_nodes-inside : (n : Node) → inner_nodes n ≡ inside n.target
inner_nodes-inside n =
    node_by_layer (List Node) inside_target inside_case inside_node n
    ∙ target_by_layer (List Node) inside_target inside_case inside_node n.target
    ∙ layer_inside (out-Target n.target)
