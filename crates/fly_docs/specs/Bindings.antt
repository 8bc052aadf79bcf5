-- What bindings name (Binding, BindingData and OutputReference, `core/literals.proto` of flyteidl).
use Rattle.std.specs.Prelude.{List, [], ◌∷◌, map, flat_map, find, Option}
use Rattle.std.specs.Str.{bytes_eq}
use Rattle.fly_types.specs.declared.text.Text.{Text}
use Rattle.fly_docs.specs.declared.binding.Binding.{Binding}
use Rattle.fly_docs.specs.declared.binding.Bound.{Bound}
use Rattle.fly_docs.specs.declared.binding.Bound.TheOpen.{Bound-F}
use Rattle.fly_docs.specs.declared.binding.Bound.TheFolds.{fold-Bound}
use Rattle.fly_docs.specs.Names.{start_node}

-- the binding of a variable, the first where there are several
abbrev pub binding_of : Text → List Binding → Option Binding
binding_of name bindings = find (λ (x : Binding). bytes_eq x.var name) bindings

-- An output of the node of this id, or under `start-node` an input of the workflow.
abbrev pub Promised : Type 0
Promised = Text × Text

-- the node that an id names in a promise: an empty one is the start
abbrev pub source_node : Text → Text
source_node [] = start_node
source_node id = id

-- the promises in what is bound, in their order: those of the elements of a list, and of the values of a map
abbrev pub promises_by : Bound-F (List Promised) → List Promised
promises_by (Bound-F.Promise node var) = (source_node node, var) ∷ []
promises_by (Bound-F.Collection elements) = flat_map (λ promises. promises) elements
promises_by (Bound-F.Map entries) = flat_map (λ entry. entry.1) entries
promises_by _ = []

abbrev pub promises_of : Bound → List Promised
promises_of = fold-Bound (List Promised) promises_by

-- the nodes from which a list of bindings promises
abbrev pub sources_of : List Binding → List Text
sources_of bindings = flat_map (λ (x : Binding). map (λ promise. promise.0) (promises_of x.bound)) bindings
