-- The closure that a bundle compiles to, as CompiledWorkflowClosure of flyteidl (`core/compiler.proto`). What the connections hold is this
-- project's own.
use Rattle.std.specs.Prelude.{ℕ, List, [], ◌∷◌, map, filter, flat_map, fold, Option, option_map, option_to_list, not}
use Rattle.std.specs.List.{list_any, enumerate_from}
use Rattle.std.specs.Ordering.{nat_cmp}
use Rattle.std.specs.Cmp.Lexicographic.{slice_cmp}
use Rattle.std.specs.FinMap.Entries.{put}
use Rattle.fly_types.specs.declared.text.Text.{Text}
use Rattle.fly_docs.specs.Names.{start_node, end_node}
use Rattle.fly_docs.specs.Edges.{needs}
use Rattle.fly_docs.specs.Lookups.{primary_of}
use Rattle.fly_docs.specs.Plans.{nodes_of, node_at, places_of}
use Rattle.fly_docs.specs.Reaching.{other_workflows, reached_tasks}
use Rattle.fly_docs.specs.declared.node.Node.{Node}
use Rattle.fly_docs.specs.declared.workflow.Workflow.{Workflow}
use Rattle.fly_docs.specs.declared.workflow.Bundle.{Bundle}
use Rattle.fly_docs.specs.declared.closure.Connections.{Connections}
use Rattle.fly_docs.specs.declared.closure.Closure.{Closure}

-- ---- the ids before and behind each node

-- the ids of the nodes at these places
abbrev pub ids_at : Workflow → List ℕ → List Text
ids_at w places = flat_map (λ place. map (λ (n : Node). n.id) (option_to_list (node_at w place))) places

-- the ids, or the one id where there are none
abbrev pub ids_or : Text → List Text → List Text
ids_or other [] = other ∷ []
ids_or other (id ∷ ids) = id ∷ ids

-- the nodes that the one at v needs, and those that need the one at u, in plan order
abbrev pub needed_by : Workflow → ℕ → List ℕ
needed_by w v = filter (needs w v) (places_of w)

abbrev pub needing : Workflow → ℕ → List ℕ
needing w u = filter (λ v. needs w v u) (places_of w)

-- the nodes that need no node, and those that no node needs
abbrev pub first_places : Workflow → List ℕ
first_places w = filter (λ v. not (list_any (needs w v) (places_of w))) (places_of w)

abbrev pub last_places : Workflow → List ℕ
last_places w = filter (λ u. not (list_any (λ v. needs w v u) (places_of w))) (places_of w)

-- what each node has before it: the nodes that it needs, or the start; and before the end the nodes that no node needs
abbrev pub upstream_lists : Workflow → List (Text × List Text)
upstream_lists w =
    (end_node, ids_at w (last_places w))
    ∷ map (λ (at : ℕ × Node). (at.1.id, ids_or start_node (ids_at w (needed_by w at.0)))) (enumerate_from 0 (nodes_of w))

-- what each node has behind it: the nodes that need it, or the end; and behind the start the nodes that need no node
abbrev pub downstream_lists : Workflow → List (Text × List Text)
downstream_lists w =
    (start_node, ids_at w (first_places w))
    ∷ map (λ (at : ℕ × Node). (at.1.id, ids_or end_node (ids_at w (needing w at.0)))) (enumerate_from 0 (nodes_of w))

-- the lists by the bytes of their ids
abbrev pub by_id : List (List ℕ × List (List ℕ)) → List (List ℕ × List (List ℕ))
by_id lists = fold (λ sorted l. put (slice_cmp nat_cmp) l.0 l.1 sorted) [] lists

abbrev pub connections_of : Workflow → Connections
connections_of w = record { upstream = by_id (upstream_lists w); downstream = by_id (downstream_lists w) }

-- ---- the closure

-- the workflow, the others that it reaches and the tasks that these run, in the order of the bundle
abbrev pub closure_with : Bundle → Workflow → Closure
closure_with b w = record {
  primary = w;
  subs = other_workflows b;
  tasks = reached_tasks b;
  connections = map connections_of (w ∷ other_workflows b);
}

-- the closure of the bundle's primary workflow
abbrev pub closure_of : Bundle → Option Closure
closure_of b = option_map (closure_with b) (primary_of b)

-- the bundle of a closure's templates: the primary workflow, and then the others
abbrev pub bundle_of : Closure → Bundle
bundle_of c = record { tasks = c.tasks; workflows = c.primary ∷ c.subs; primary = c.primary.id }
