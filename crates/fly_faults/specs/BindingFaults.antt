-- What is wrong with bindings, in the order of the report.
use Rattle.std.specs.Prelude.{ℕ, Bool, true, false, ◌||◌, if◌then◌else◌, List, [], ◌∷◌, ◌++◌, map, filter, flat_map, take, codes, Option, Some, None, is_some, is_none, option_and_then, option_to_list}
use Rattle.std.specs.List.{list_any, enumerate_from}
use Rattle.std.specs.Str.{bytes_eq}
use Rattle.fly_types.specs.declared.text.Text.{Text}
use Rattle.fly_types.specs.declared.kinds.LiteralType.{LiteralType, out-LiteralType}
use Rattle.fly_types.specs.declared.kinds.LiteralType.TheOpen.{LiteralType-F}
use Rattle.fly_types.specs.declared.literals.Literal.{out-Literal}
use Rattle.fly_types.specs.declared.literals.Literal.TheOpen.{Literal-F}
use Rattle.fly_types.specs.declared.variable.Variable.{Variable}
use Rattle.fly_types.specs.Layer.{TypeLayer, LiteralLayer}
use Rattle.fly_docs.specs.declared.binding.Binding.{Binding}
use Rattle.fly_docs.specs.declared.binding.Bound.{Bound, out-Bound}
use Rattle.fly_docs.specs.declared.binding.Bound.TheOpen.{Bound-F}
use Rattle.fly_docs.specs.Layer.{BoundLayer}
use Rattle.fly_docs.specs.Bindings.{Promised, source_node, promises_of, binding_of}
use Rattle.fly_docs.specs.NodeInterfaces.{Source, of_type, of_anything, no_node, no_variable, Wanted, value, items, primitive}
use Rattle.fly_docs.specs.Fitting.{bound_fits, array_input_fits}
use Rattle.fly_docs.specs.Conditions.{bound_primitive}
use Rattle.fly_faults.specs.declared.fault.Code.{Code}
use Rattle.fly_faults.specs.declared.fault.Code.TheVariants as code
use Rattle.fly_faults.specs.declared.fault.Fault.{Fault}
use Rattle.fly_faults.specs.Places.{variable_place, fault_at, fault_with}
use Rattle.fly_faults.specs.TypeText.{quoted, text_of_type}

-- Where bindings stand: the place of the node or of the outputs; what promises are of; and what an input wants, by its name, where what the
-- node runs is in the bundle.
pub record Site : Type 0 where
  pub place : Text
  pub source : Promised → Source
  pub wanted : Option (Text → Option Wanted)

-- ---- promises

abbrev pub is_no_node : Source → Bool
is_no_node no_node = true
is_no_node _ = false

abbrev pub is_no_variable : Source → Bool
is_no_variable no_variable = true
is_no_variable _ = false

abbrev pub is_anything : Source → Bool
is_anything of_anything = true
is_anything _ = false

-- a promise in what is bound is of such a source
abbrev pub has_source : (Source → Bool) → Site → Bound → Bool
has_source is_such site x = list_any (λ promise. is_such (site.source promise)) (promises_of x)

-- NodeNotFound with the id, for each promise of a node that is not there
abbrev pub node_faults : Site → Binding → List Fault
node_faults site x =
    map (λ (promise : Promised). fault_with code.NodeNotFound (variable_place site.place x.var) promise.0)
    (filter (λ promise. is_no_node (site.source promise)) (promises_of x.bound))

-- VariableNotFound with the id and the name, for each promise of a variable that is not there
abbrev pub variable_faults : Site → Binding → List Fault
variable_faults site x =
    map (λ (promise : Promised). fault_with code.VariableNotFound (variable_place site.place x.var) (promise.0 ++ codes "." ++ promise.1))
    (filter (λ promise. is_no_variable (site.source promise)) (promises_of x.bound))

-- ---- values

-- an input of a branch is a primitive; a promise of anything may be one
abbrev pub is_promise_of_anything : Site → BoundLayer → Bool
is_promise_of_anything site (Bound-F.Promise node var) = is_anything (site.source (source_node node, var))
is_promise_of_anything site _ = false

abbrev pub fits_wanted : Site → Bound → Wanted → Bool
fits_wanted site x (value t) = bound_fits site.source x t
fits_wanted site x (items t) = array_input_fits site.source x t
fits_wanted site x primitive = is_some (bound_primitive site.source x) || is_promise_of_anything site (out-Bound x)

abbrev pub wanted_type : Wanted → Option LiteralType
wanted_type (value t) = Some t
wanted_type (items t) = Some t
wanted_type primitive = None

abbrev pub wanted_text : Wanted → Text
wanted_text (value t) = text_of_type t
wanted_text (items t) = text_of_type t
wanted_text primitive = codes "primitive"

-- the type of a promise, else the word `value`
abbrev pub source_text : Source → Text
source_text (of_type t) = text_of_type t
source_text _ = codes "value"

abbrev pub bound_text : Site → BoundLayer → Text
bound_text site (Bound-F.Promise node var) = source_text (site.source (source_node node, var))
bound_text site _ = codes "value"

-- the text that is bound where an enum is wanted
abbrev pub text_in : LiteralLayer → Option Text
text_in (Literal-F.Text text) = Some text
text_in _ = None

abbrev pub text_for_enum : BoundLayer → TypeLayer → Option Text
text_for_enum (Bound-F.Scalar literal) (LiteralType-F.Enum values) = text_in (out-Literal literal)
text_for_enum _ _ = None

abbrev pub illegal_text : Bound → Wanted → Option Text
illegal_text x wanted = option_and_then (λ t. text_for_enum (out-Bound x) (out-LiteralType t)) (wanted_type wanted)

-- IllegalEnumValue for a text that no value of its enum is, else MismatchedTypes
abbrev pub misfit_with : Site → Binding → Wanted → Option Text → Fault
misfit_with site x wanted (Some text) = fault_with code.IllegalEnumValue (variable_place site.place x.var) (quoted text)
misfit_with site x wanted None =
    fault_with code.MismatchedTypes (variable_place site.place x.var) (bound_text site (out-Bound x.bound) ++ codes " to " ++ wanted_text wanted)

abbrev pub misfit : Site → Binding → Wanted → Fault
misfit site x wanted = misfit_with site x wanted (illegal_text x.bound wanted)

-- what is bound does not fit, though all that it promises is there
abbrev pub value_faults : Site → Binding → Option Wanted → List Fault
value_faults site x None = []
value_faults site x (Some wanted) =
    if fits_wanted site x.bound wanted || has_source is_no_node site x.bound || has_source is_no_variable site x.bound then [] else misfit site x wanted ∷ []

-- ---- bindings

-- BoundTwice where an earlier binding has the variable
abbrev pub twice_faults : Site → List Binding → Binding → List Fault
twice_faults site earlier x =
    if list_any (λ (y : Binding). bytes_eq y.var x.var) earlier then fault_at code.BoundTwice (variable_place site.place x.var) ∷ [] else []

-- VariableNotFound where the interface does not have the variable
abbrev pub unwanted_faults : Site → Binding → Option Wanted → List Fault
unwanted_faults site x None = fault_at code.VariableNotFound (variable_place site.place x.var) ∷ []
unwanted_faults site x (Some wanted) = []

abbrev pub wanted_faults : Site → Binding → List Fault
wanted_faults site x = flat_map (λ wanted. unwanted_faults site x (wanted x.var)) (option_to_list site.wanted)

abbrev pub wanted_for : Site → Text → Option Wanted
wanted_for site name = option_and_then (λ wanted. wanted name) site.wanted

-- the faults of one binding, behind these
abbrev pub binding_faults : Site → List Binding → Binding → List Fault
binding_faults site earlier x =
    twice_faults site earlier x
    ++ wanted_faults site x
    ++ node_faults site x
    ++ variable_faults site x
    ++ value_faults site x (wanted_for site x.var)

-- the faults of all bindings, in their order
abbrev pub bindings_faults : Site → List Binding → List Fault
bindings_faults site bindings =
    flat_map (λ (at : ℕ × Binding). binding_faults site (take at.0 bindings) at.1) (enumerate_from 0 bindings)

-- this fault for each variable without a binding
abbrev pub unbound_faults : Code → Text → List Variable → List Binding → List Fault
unbound_faults code place variables bindings =
    map (λ (v : Variable). fault_at code (variable_place place v.name))
    (filter (λ (v : Variable). is_none (binding_of v.name bindings)) variables)
