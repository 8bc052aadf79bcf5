-- The JSON of what is bound, by `core/literals.proto` of flyteidl. A promise of a workflow's input names `start-node`.
use Rattle.std.specs.Prelude.{ℕ, List, [], ◌∷◌, map, Option, Some, None, codes}
use Rattle.serde_json.specs.Data.{Data, string}
use Rattle.fly_docs.specs.declared.binding.Bound.{Bound}
use Rattle.fly_docs.specs.declared.binding.Bound.TheOpen.{Bound-F}
use Rattle.fly_docs.specs.declared.binding.Bound.TheFolds.{fold-Bound}
use Rattle.fly_docs.specs.declared.binding.Binding.{Binding}
use Rattle.fly_docs.specs.Names.{start_node}
use Rattle.fly_writers.specs.Json.{Fields, message, optional_list, optional_map}
use Rattle.fly_writers.specs.Literals.{scalar_json}

-- the node of a promise; an empty one stands for the workflow's inputs too
abbrev pub node_name : List ℕ → List ℕ
node_name [] = start_node
node_name (b ∷ bs) = b ∷ bs

-- OutputReference
abbrev pub reference_fields : List ℕ → List ℕ → Fields
reference_fields node var =
    (codes "nodeId", Some (string (node_name node))) ∷
    (codes "var", Some (string var)) ∷ []

-- BindingDataCollection
abbrev pub bound_collection_fields : List Data → Fields
bound_collection_fields elements = (codes "bindings", optional_list elements) ∷ []

-- BindingDataMap
abbrev pub bound_map_fields : List (List ℕ × Data) → Fields
bound_map_fields entries = (codes "bindings", optional_map entries) ∷ []

-- BindingData, with the JSON of each part in its place
abbrev pub bound_fields_by : Bound-F Data → Fields
bound_fields_by (Bound-F.Scalar literal) = (codes "scalar", Some (scalar_json literal)) ∷ []
bound_fields_by (Bound-F.Collection elements) = (codes "collection", Some (message (bound_collection_fields elements))) ∷ []
bound_fields_by (Bound-F.Map entries) = (codes "map", Some (message (bound_map_fields entries))) ∷ []
bound_fields_by (Bound-F.Promise node var) = (codes "promise", Some (message (reference_fields node var))) ∷ []

abbrev pub bound_json_by : Bound-F Data → Data
bound_json_by layer = message (bound_fields_by layer)

unfoldable pub bound_json : Bound → Data
bound_json = fold-Bound Data bound_json_by

abbrev pub bound_entry : List ℕ × Bound → List ℕ × Data
bound_entry entry = (entry.0, bound_json entry.1)

-- Binding
abbrev pub binding_fields : Binding → Fields
binding_fields b =
    (codes "var", Some (string b.var)) ∷
    (codes "binding", Some (bound_json b.bound)) ∷ []

abbrev pub binding_json : Binding → Data
binding_json b = message (binding_fields b)
