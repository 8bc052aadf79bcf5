-- The nodes of a workflow, and those of all that it runs, in plan order.
use Rattle.std.specs.Prelude.{ℕ, zero, suc, List, [], ◌∷◌, ◌++◌, map, flat_map, find, position, length, Option, Some, None, option_to_list, option_and_then, slice_get, Bool, true, false}
use Rattle.std.specs.List.{enumerate_from, range_with_len}
use Rattle.std.specs.Str.{bytes_eq}
use Rattle.fly_types.specs.declared.text.Text.{Text}
use Rattle.fly_docs.specs.declared.names.Identifier.{Identifier}
use Rattle.fly_docs.specs.declared.node.Node.{Node}
use Rattle.fly_docs.specs.declared.node.Case.{Case}
use Rattle.fly_docs.specs.declared.node.Target.{Target, out-Target}
use Rattle.fly_docs.specs.declared.node.Target.TheOpen.{Target-F}
use Rattle.fly_docs.specs.declared.workflow.Workflow.{Workflow}
use Rattle.fly_docs.specs.declared.workflow.Bundle.{Bundle}
use Rattle.fly_docs.specs.Layer.{TargetParts, CaseParts, NodeParts, node_by}
use Rattle.fly_docs.specs.Lookups.{workflow_named, primary_of}

-- ---- inside a workflow

-- A branch has its cases and its else node inside, in this order, each followed by the nodes inside it. No other node has nodes inside.
abbrev pub inside_target : TargetParts (List Node) → List Node
inside_target (Target-F.Branch cases otherwise error) =
    flat_map (λ case. case.1) cases ++ flat_map (λ node. node.0 ∷ node.1) (option_to_list otherwise)
inside_target _ = []

abbrev pub inside_case : CaseParts (List Node) → List Node
inside_case case = case.then.0 ∷ case.then.1

abbrev pub inside_node : NodeParts (List Node) → List Node
inside_node node = node.target.1

-- the case nodes of a branch, at any depth of branches in branches
abbrev pub inner_nodes : Node → List Node
inner_nodes = node_by (List Node) inside_target inside_case inside_node

-- the nodes of a workflow with their cases: each in the order of the document, followed by the nodes inside it
abbrev pub nodes_of : Workflow → List Node
nodes_of w = flat_map (λ n. n ∷ inner_nodes n) w.nodes

abbrev pub node_ids : Workflow → List Text
node_ids w = map (λ (n : Node). n.id) (nodes_of w)

-- the node that an id names: the first in plan order
abbrev pub node_named : Workflow → Text → Option Node
node_named w id = find (λ (n : Node). bytes_eq n.id id) (nodes_of w)

-- its place in plan order
abbrev pub place_named : Workflow → Text → Option ℕ
place_named w id = position (bytes_eq id) (node_ids w)

-- its place in plan order
abbrev pub node_at : Workflow → ℕ → Option Node
node_at w place = slice_get (nodes_of w) place

abbrev pub places_of : Workflow → List ℕ
places_of w = range_with_len 0 (length (nodes_of w))

-- ---- with what is inside workflow nodes

-- the id of the workflow that a workflow node runs
abbrev pub workflow_id_in : Target-F Target Case Node → Option Identifier
workflow_id_in (Target-F.Workflow id) = Some id
workflow_id_in _ = None

abbrev pub subworkflow_id : Node → Option Identifier
subworkflow_id n = workflow_id_in (out-Target n.target)

-- the workflow that a node runs, where it is a workflow node and the bundle has that workflow
abbrev pub subworkflow_of : Bundle → Node → Option Workflow
subworkflow_of b n = option_and_then (workflow_named b) (subworkflow_id n)

-- A node of a run: its path, which is the ids of the workflow nodes around it and its own; the workflow in whose nodes it stands; and its
-- place there.
pub record PlanNode : Type 0 where
  pub path : List Text
  pub workflow : Workflow
  pub place : ℕ
  pub node : Node

-- the nodes of a workflow, each followed by what stands inside it
abbrev pub plan_with : (List Text → Node → List PlanNode) → List Text → Workflow → List PlanNode
plan_with inside around w =
    flat_map (λ (at : ℕ × Node). let path = around ++ at.1.id ∷ [] in
    record { path = path; workflow = w; place = at.0; node = at.1 } ∷ inside path at.1)
    (enumerate_from 0 (nodes_of w))

-- with so many levels of workflow nodes to go: a workflow node is followed by the nodes inside it
unfoldable pub plan_within : ℕ → Bundle → List Text → Workflow → List PlanNode
plan_within zero b around w = plan_with (λ path node. []) around w
plan_within (suc n) b around w = plan_with (λ path node. flat_map (plan_within n b path) (option_to_list (subworkflow_of b node))) around w

-- how deep workflow nodes may nest
abbrev pub max_nesting : ℕ
max_nesting = 8

-- the nodes of a run of the primary workflow
abbrev pub plan_of : Bundle → List PlanNode
plan_of b = flat_map (plan_within max_nesting b []) (option_to_list (primary_of b))

abbrev pub is_array_target : Target-F Target Case Node → Bool
is_array_target (Target-F.Array task min_successes) = true
is_array_target _ = false

abbrev pub is_array : Node → Bool
is_array n = is_array_target (out-Target n.target)
