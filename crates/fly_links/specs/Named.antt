-- The places of the nodes that ids name.
use Rattle.std.specs.Prelude.{ℕ, List, not, map, filter, filter_map}
use Rattle.std.specs.Str.{bytes_eq}
use Rattle.fly_types.specs.declared.text.Text.{Text}
use Rattle.fly_docs.specs.declared.binding.Bound.{Bound}
use Rattle.fly_docs.specs.declared.node.Node.{Node}
use Rattle.fly_docs.specs.declared.workflow.Workflow.{Workflow}
use Rattle.fly_docs.specs.Names.{start_node}
use Rattle.fly_docs.specs.Bindings.{promises_of}
use Rattle.fly_docs.specs.Edges.{named_ids}
use Rattle.fly_docs.specs.Plans.{place_named}

-- the places of the nodes that the ids name. The start is no node, and an id that no node has names none.
abbrev pub places_named : Workflow → List Text → List ℕ
places_named w ids = filter_map (place_named w) (filter (λ id. not (bytes_eq id start_node)) ids)

-- the nodes from which what is bound promises
abbrev pub promised_ids : Bound → List Text
promised_ids x = map (λ promise. promise.0) (promises_of x)

-- the places of the nodes that a node names
abbrev pub places_in : Workflow → Node → List ℕ
places_in w n = filter_map (place_named w) (named_ids n)
