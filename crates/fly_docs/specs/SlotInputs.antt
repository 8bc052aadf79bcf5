-- What a node takes once what it promises from is known: each input conversion_of to its type, or the first fault in the order of the inputs'
-- names. An array takes its mapped inputs as whole lists, and an item one element of each.
use Rattle.std.specs.Prelude.{ℕ, zero, suc, ◌==◌, nat_lt, Bool, not, if◌then◌else◌, List, [], ◌∷◌, map, filter, fold, flat_map, find, length, slice_get, Option, Some, None, unwrap_or, option_map, option_and_then, option_to_list, Result, Ok, Err}
use Rattle.std.specs.List.{list_any}
use Rattle.std.specs.Str.{bytes_eq}
use Rattle.std.specs.Ordering.{nat_cmp}
use Rattle.std.specs.Cmp.Lexicographic.{slice_cmp}
use Rattle.std.specs.FinMap.Entries.{put}
use Rattle.fly_types.specs.declared.text.Text.{Text}
use Rattle.fly_types.specs.declared.kinds.LiteralType.{LiteralType, out-LiteralType}
use Rattle.fly_types.specs.declared.kinds.LiteralType.TheOpen.{LiteralType-F}
use Rattle.fly_types.specs.declared.kinds.LiteralType.TheVariants as type
use Rattle.fly_types.specs.declared.literals.Literal.{Literal, out-Literal}
use Rattle.fly_types.specs.declared.literals.Literal.TheOpen.{Literal-F}
use Rattle.fly_types.specs.declared.literals.Literal.TheVariants as literal
use Rattle.fly_types.specs.declared.literals.LiteralMap.{LiteralMap}
use Rattle.fly_types.specs.declared.variable.Variable.{Variable}
use Rattle.fly_types.specs.Layer.{TypeLayer, LiteralLayer}
use Rattle.fly_types.specs.Levels.{type_levels}
use Rattle.fly_cast.specs.Castable.{sole_element}
use Rattle.fly_cast.specs.Conversion.{Conversion, result_map, each_result, entry_result, conversion_of}
use Rattle.fly_cast.specs.Fitting.{fitting_of}
use Rattle.fly_docs.specs.declared.binding.Binding.{Binding}
use Rattle.fly_docs.specs.declared.binding.Bound.{Bound, out-Bound}
use Rattle.fly_docs.specs.declared.binding.Bound.TheOpen.{Bound-F}
use Rattle.fly_docs.specs.declared.node.Node.{Node}
use Rattle.fly_docs.specs.declared.node.Case.{Case}
use Rattle.fly_docs.specs.declared.node.Target.{Target, out-Target}
use Rattle.fly_docs.specs.declared.node.Target.TheOpen.{Target-F}
use Rattle.fly_docs.specs.declared.workflow.Workflow.{Workflow}
use Rattle.fly_docs.specs.declared.workflow.Bundle.{Bundle}
use Rattle.fly_docs.specs.Layer.{BoundLayer}
use Rattle.fly_docs.specs.Bindings.{Promised, source_node, binding_of}
use Rattle.fly_docs.specs.NodeInterfaces.{Source, of_type, inputs_of, outputs_of, source_of}
use Rattle.fly_docs.specs.Fitting.{bound_fits, is_mapped}

-- What is known: the outputs of the nodes that have given them, by id, and under `start-node` the inputs of the workflow.
abbrev pub Known : Type 0
Known = Text → Option LiteralMap

-- Why a slot has no inputs: a text that no value of its enum is; two mapped lists of different lengths; more items than an array may have; or
-- something is not known, or is bound in a way that no typed workflow has.
pub data InputFault : Type 0 where
  enum_outside : Text → InputFault
  unequal_lengths : ℕ → ℕ → InputFault
  too_many_items : ℕ → InputFault
  unknown : InputFault

abbrev pub Taken : Type 0 → Type 0
Taken X = Result X InputFault

abbrev pub literal_named : Text → LiteralMap → Option Literal
literal_named name literals = option_map (λ entry. entry.1) (find (λ (entry : Text × Literal). bytes_eq entry.0 name) literals.entries)

-- the literal that a promise is of
abbrev pub known_literal : Known → Promised → Option Literal
known_literal known promise = option_and_then (literal_named promise.1) (known promise.0)

abbrev pub or_unknown : {X : Type 0} → Option X → Taken X
or_unknown (Some x) = Ok x
or_unknown None = Err unknown

-- ---- the value of a binding

abbrev pub of_conversion : Conversion → Taken Literal
of_conversion (Ok l) = Ok l
of_conversion (Err text) = Err (enum_outside text)

-- what was promised, conversion_of from its own type
abbrev pub promise_value : LiteralType → Source → Option Literal → Taken Literal
promise_value t (of_type s) (Some l) = of_conversion (conversion_of l s t)
promise_value t _ _ = Err unknown

-- as a scalar of the variant that takes it
abbrev pub variant_value : (LiteralType → Taken Literal) → Option LiteralType → Taken Literal
variant_value value (Some variant) = result_map (λ l. literal.Union l variant) (value variant)
variant_value value None = Err unknown

-- The rules, as those of fitting; `value` gives the value of each part.
abbrev pub bound_form_value : (Promised → Source) → Known → (Bound → LiteralType → Taken Literal) → Bound → LiteralType → BoundLayer → TypeLayer → Taken Literal
bound_form_value source known value x t (Bound-F.Promise node var) _ =
    promise_value t (source (source_node node, var)) (known_literal known (source_node node, var))
bound_form_value source known value x t (Bound-F.Scalar l) _ = or_unknown (fitting_of l t)
bound_form_value source known value x t (Bound-F.Collection elements) (LiteralType-F.Collection element) =
    result_map literal.Collection (each_result (λ e. value e element) elements)
bound_form_value source known value x t (Bound-F.Map entries) (LiteralType-F.Map inner) =
    result_map literal.Map (each_result (entry_result (λ e. value e inner)) entries)
bound_form_value source known value x t _ (LiteralType-F.Union variants) = variant_value (value x) (sole_element (filter (bound_fits source x) variants))
bound_form_value source known value x t _ _ = Err unknown

-- with so many levels of the type to go
unfoldable pub bound_value_within : (Promised → Source) → Known → ℕ → Bound → LiteralType → Taken Literal
bound_value_within source known zero x t = Err unknown
bound_value_within source known (suc n) x t =
    bound_form_value source known (bound_value_within source known n) x t (out-Bound x) (out-LiteralType t)

-- what is bound, as a value of the type that it fitting_of
unfoldable pub bound_value : (Promised → Source) → Known → Bound → LiteralType → Taken Literal
bound_value source known x t = bound_value_within source known (type_levels t) x t

-- ---- the inputs of a node, and the outputs of a workflow

-- the value of a variable under its name, by the binding that it has
abbrev pub variable_value : (Bound → LiteralType → Taken Literal) → List Binding → Variable → Taken (Text × Literal)
variable_value value bindings v = result_map (λ l. (v.name, l)) (of_binding (binding_of v.name bindings))
  where
    of_binding : Option Binding → Taken Literal
    of_binding (Some x) = value x.bound v.kind
    of_binding None = Err unknown

-- the values of the variables by their names, or the first fault
abbrev pub values_of : (Bound → LiteralType → Taken Literal) → List Variable → List Binding → Taken LiteralMap
values_of value variables bindings = result_map (λ entries. record { entries = entries }) (each_result (variable_value value bindings) variables)

-- the inputs of a task node or a workflow node
abbrev pub plain_inputs : (Promised → Source) → Known → List Variable → List Binding → Taken LiteralMap
plain_inputs source known = values_of (bound_value source known)

-- the outputs of a workflow
abbrev pub workflow_outputs : Bundle → Workflow → Known → Taken LiteralMap
workflow_outputs b w known = plain_inputs (source_of b w) known w.interface.outputs w.outputs

-- ---- branches

-- the inputs of a branch stay as they are
abbrev pub branch_value_in : Known → BoundLayer → Taken Literal
branch_value_in known (Bound-F.Promise node var) = or_unknown (known_literal known (source_node node, var))
branch_value_in known (Bound-F.Scalar l) = Ok l
branch_value_in known _ = Err unknown

abbrev pub by_name : List (Text × Literal) → List (Text × Literal)
by_name entries = fold (λ sorted entry. put (slice_cmp nat_cmp) entry.0 entry.1 sorted) [] entries

abbrev pub branch_inputs : Known → List Binding → Taken LiteralMap
branch_inputs known bindings =
    result_map (λ entries. record { entries = by_name entries })
    (each_result (λ (x : Binding). result_map (λ l. (x.var, l)) (branch_value_in known (out-Bound x.bound))) bindings)

-- of what the chosen case gave, what all cases give
abbrev pub branch_outputs : Bundle → Node → LiteralMap → LiteralMap
branch_outputs b n given =
    let names = flat_map (λ variables. map (λ (v : Variable). v.name) variables) (option_to_list (outputs_of b n)) in
    record { entries = filter (λ (entry : Text × Literal). list_any (bytes_eq entry.0) names) given.entries }

-- ---- arrays

-- the most items that an array may have
abbrev pub max_items : ℕ
max_items = 1024

-- a mapped input as a whole list
abbrev pub array_value : (Promised → Source) → Known → Bound → LiteralType → Taken Literal
array_value source known x t =
    if is_mapped source x t then bound_value source known x (type.Collection t) else bound_value source known x t

-- the names of the inputs that are mapped, in their order
abbrev pub maps_variable : (Promised → Source) → List Binding → Variable → Bool
maps_variable source bindings v = list_any (λ (x : Binding). is_mapped source x.bound v.kind) (option_to_list (binding_of v.name bindings))

abbrev pub mapped_names : (Promised → Source) → List Variable → List Binding → List Text
mapped_names source variables bindings = map (λ (v : Variable). v.name) (filter (maps_variable source bindings) variables)

abbrev pub elements_in : LiteralLayer → List Literal
elements_in (Literal-F.Collection elements) = elements
elements_in _ = []

-- the elements of the input of this name
abbrev pub elements_named : LiteralMap → Text → List Literal
elements_named inputs name = flat_map (λ l. elements_in (out-Literal l)) (option_to_list (literal_named name inputs))

-- the lengths of the mapped inputs, by their names
abbrev pub lengths_of : List Text → LiteralMap → List ℕ
lengths_of mapped inputs = map (λ name. length (elements_named inputs name)) mapped

-- the first two lengths that differ
abbrev pub unequal : List ℕ → Option (ℕ × ℕ)
unequal [] = None
unequal (first ∷ lengths) = option_map (λ second. (first, second)) (find (λ length. not (length == first)) lengths)

-- how many items an array has, where the lengths are equal
abbrev pub item_count : List ℕ → ℕ
item_count [] = 0
item_count (first ∷ lengths) = first

-- the inputs, where the mapped lists are of one length that is within the limit
abbrev pub with_lengths : LiteralMap → List ℕ → Option (ℕ × ℕ) → Taken LiteralMap
with_lengths inputs lengths (Some differing) = Err (unequal_lengths differing.0 differing.1)
with_lengths inputs lengths None = if nat_lt max_items (item_count lengths) then Err (too_many_items (item_count lengths)) else Ok inputs

abbrev pub with_items : List Text → Taken LiteralMap → Taken LiteralMap
with_items mapped (Ok inputs) = with_lengths inputs (lengths_of mapped inputs) (unequal (lengths_of mapped inputs))
with_items mapped (Err fault) = Err fault

abbrev pub array_inputs : (Promised → Source) → Known → List Variable → List Binding → Taken LiteralMap
array_inputs source known variables bindings =
    with_items (mapped_names source variables bindings) (values_of (array_value source known) variables bindings)

-- an input of the item of this number: of a mapped input its element
abbrev pub item_entry : List Text → ℕ → Text × Literal → Text × Literal
item_entry mapped item entry =
    if list_any (bytes_eq entry.0) mapped
    then (entry.0, unwrap_or (slice_get (elements_in (out-Literal entry.1)) item) entry.1)
    else entry

abbrev pub item_inputs : List Text → ℕ → LiteralMap → LiteralMap
item_inputs mapped item inputs = record { entries = map (item_entry mapped item) inputs.entries }

-- ---- slots

-- the inputs of the task, the workflow or the items that a node of the workflow runs, or of its conditions
abbrev pub inputs_with : Bundle → Workflow → Known → Node → List Variable → Target-F Target Case Node → Taken LiteralMap
inputs_with b w known n variables (Target-F.Branch cases otherwise error) = branch_inputs known n.inputs
inputs_with b w known n variables (Target-F.Array id min_successes) = array_inputs (source_of b w) known variables n.inputs
inputs_with b w known n variables _ = plain_inputs (source_of b w) known variables n.inputs

abbrev pub node_inputs : Bundle → Workflow → Known → Node → Taken LiteralMap
node_inputs b w known n = of_variables (inputs_of b n)
  where
    of_variables : Option (List Variable) → Taken LiteralMap
    of_variables (Some variables) = inputs_with b w known n variables (out-Target n.target)
    of_variables None = Err unknown

-- the mapped inputs of an array
abbrev pub mapped_of : Bundle → Workflow → Node → List Text
mapped_of b w n = flat_map (λ variables. mapped_names (source_of b w) variables n.inputs) (option_to_list (inputs_of b n))

-- the inputs of a slot: of a node, or of the item of this number of an array
abbrev pub slot_inputs : Bundle → Workflow → Known → Node → Option ℕ → Taken LiteralMap
slot_inputs b w known n None = node_inputs b w known n
slot_inputs b w known n (Some item) = result_map (item_inputs (mapped_of b w n) item) (node_inputs b w known n)
