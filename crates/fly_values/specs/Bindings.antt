-- What the messages of bindings are as values (`core/literals.proto` of flyteidl).
use Rattle.std.specs.Prelude.{ℕ, zero, suc, List, option_map, unwrap_or, codes}
use Rattle.serde_json.specs.Data.{Data, Members}
use Rattle.fly_docs.specs.declared.binding.Bound.{Bound}
use Rattle.fly_docs.specs.declared.binding.Bound.TheVariants as bounds
use Rattle.fly_docs.specs.declared.binding.Binding.{Binding}
use Rattle.fly_docs.specs.Bindings.{source_node}
use Rattle.fly_values.specs.Fields.{members_in, field, member_at, text_value, list_value, map_value}
use Rattle.fly_values.specs.Literals.{scalar_value}

-- OutputReference; without a node it is an input of the workflow
unfoldable pub promise_value : Data → Bound
promise_value d =
    bounds.Promise (source_node (text_value (field (codes "nodeId") (members_in d)))) (text_value (field (codes "var") (members_in d)))

-- BindingData, where it is no collection and no map
unfoldable pub plain_bound : Members → Bound
plain_bound ms =
    unwrap_or (option_map promise_value (member_at (codes "promise") ms))
    (bounds.Scalar (scalar_value (field (codes "scalar") ms)))

-- BindingDataCollection
unfoldable pub bound_elements_by : (Data → Bound) → Data → List Bound
bound_elements_by of d = list_value of (field (codes "bindings") (members_in d))

-- BindingDataMap
unfoldable pub bound_entries_by : (Data → Bound) → Data → List (List ℕ × Bound)
bound_entries_by of d = map_value of (field (codes "bindings") (members_in d))

-- BindingData, by what its parts are
unfoldable pub bound_by : (Data → Bound) → Members → Bound
bound_by of ms =
    unwrap_or (option_map (λ d. bounds.Collection (bound_elements_by of d)) (member_at (codes "collection") ms))
    (unwrap_or (option_map (λ d. bounds.Map (bound_entries_by of d)) (member_at (codes "map") ms))
    (plain_bound ms))

-- BindingData, where parts lie in each other no deeper than this
unfoldable pub bound_at : ℕ → Data → Bound
bound_at zero d = plain_bound (members_in d)
bound_at (suc depth) d = bound_by (bound_at depth) (members_in d)

-- how deep the parts of what is bound may lie in each other: it has at most 16 levels of collections and maps
abbrev pub bound_depth : ℕ
bound_depth = 16

-- Binding
unfoldable pub binding_value : Data → Binding
binding_value d = record {
  var = text_value (field (codes "var") (members_in d));
  bound = bound_at bound_depth (field (codes "binding") (members_in d));
}
