-- Which nodes of a workflow go before which (`inputs` and `upstream_node_ids` of Node, `core/workflow.proto` of flyteidl; the edges of
-- branches are this project's own). Nodes are told apart by their places in plan order, since two may have one id.
use Rattle.std.specs.Prelude.{ℕ, ◌+◌, ◌==◌, nat_lt, nat_le, Bool, ◌&&◌, ◌||◌, not, List, ◌++◌, map, filter, flat_map, filter_map, sum_by, length, option_to_list}
use Rattle.std.specs.List.{list_any}
use Rattle.std.specs.Str.{bytes_eq}
use Rattle.fly_types.specs.declared.text.Text.{Text}
use Rattle.fly_docs.specs.declared.node.Node.{Node}
use Rattle.fly_docs.specs.declared.workflow.Workflow.{Workflow}
use Rattle.fly_docs.specs.Names.{start_node}
use Rattle.fly_docs.specs.Bindings.{sources_of}
use Rattle.fly_docs.specs.Plans.{inner_nodes, node_at, place_named, places_of}

-- the nodes from which a node promises, or that it names upstream. The start is no node.
abbrev pub named_ids : Node → List Text
named_ids n = filter (λ id. not (bytes_eq id start_node)) (sources_of n.inputs ++ n.upstream)

-- the places of the nodes that the node at v names. An id that no node has makes no edge.
abbrev pub named_places : Workflow → ℕ → List ℕ
named_places w v = flat_map (λ n. filter_map (place_named w) (named_ids n)) (option_to_list (node_at w v))

-- the node at v names the one at u
abbrev pub names_place : Workflow → ℕ → ℕ → Bool
names_place w v u = list_any (λ place. place == u) (named_places w v)

-- how many nodes are inside the branch at v, which they follow
abbrev pub inner_count : Workflow → ℕ → ℕ
inner_count w v = sum_by (λ n. length (inner_nodes n)) (option_to_list (node_at w v))

-- the node at u is inside the branch at v, at any depth
abbrev pub is_inside : Workflow → ℕ → ℕ → Bool
is_inside w v u = nat_lt v u && nat_le u (v + inner_count w v)

-- the node at u is a case of the branch at v, or its else node: no branch inside that one has it inside
abbrev pub is_case : Workflow → ℕ → ℕ → Bool
is_case w v u = is_inside w v u && not (list_any (λ t. is_inside w v t && is_inside w t u) (places_of w))

-- The node at v needs the one at u: it names it, has it as a case, or is inside a branch that names it.
abbrev pub needs : Workflow → ℕ → ℕ → Bool
needs w v u = names_place w v u || is_case w v u || list_any (λ t. is_inside w t v && names_place w t u) (places_of w)

-- the edges (u, v): v needs u
abbrev pub edges_of : Workflow → List (ℕ × ℕ)
edges_of w = flat_map (λ v. map (λ u. (u, v)) (filter (needs w v) (places_of w))) (places_of w)
