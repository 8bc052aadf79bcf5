-- What the conditions of a branch compare: its inputs, each a primitive (`ComparisonExpression` and `Operand`, `core/condition.proto` of
-- flyteidl).
use Rattle.std.specs.Prelude.{List, filter_map, Bool, true, false, if◌then◌else◌, Option, Some, None, option_map, option_and_then, slice_get}
use Rattle.fly_types.specs.declared.text.Text.{Text}
use Rattle.fly_types.specs.declared.kinds.Simple.{Simple}
use Rattle.fly_types.specs.declared.kinds.Simple.TheVariants as simple
use Rattle.fly_types.specs.declared.kinds.LiteralType.{LiteralType, out-LiteralType}
use Rattle.fly_types.specs.declared.kinds.LiteralType.TheOpen.{LiteralType-F}
use Rattle.fly_types.specs.declared.literals.Literal.{out-Literal}
use Rattle.fly_types.specs.Layer.{TypeLayer}
use Rattle.fly_types.specs.Membership.{simple_type}
use Rattle.fly_exprs.specs.declared.faults.ExprFault.{ExprFault}
use Rattle.fly_exprs.specs.Faults.{faults_of}
use Rattle.fly_types.specs.Lookup.{value_of}
use Rattle.fly_docs.specs.declared.binding.Binding.{Binding}
use Rattle.fly_docs.specs.declared.binding.Bound.{Bound, out-Bound}
use Rattle.fly_docs.specs.declared.binding.Bound.TheOpen.{Bound-F}
use Rattle.fly_docs.specs.declared.node.Case.{Case}
use Rattle.fly_docs.specs.Layer.{BoundLayer}
use Rattle.fly_docs.specs.Bindings.{Promised, source_node}
use Rattle.fly_docs.specs.NodeInterfaces.{Source, of_type}

-- the types of values that can be compared
abbrev pub is_primitive : Simple → Bool
is_primitive simple.Integer = true
is_primitive simple.Text = true
is_primitive simple.Boolean = true
is_primitive simple.Datetime = true
is_primitive simple.Duration = true
is_primitive _ = false

abbrev pub if_primitive : Simple → Option Simple
if_primitive s = if is_primitive s then Some s else None

-- the primitive type of values of the type: the values of an enum are texts
abbrev pub primitive_in : TypeLayer → Option Simple
primitive_in (LiteralType-F.Simple s) = if_primitive s
primitive_in (LiteralType-F.Enum values) = Some simple.Text
primitive_in _ = None

abbrev pub primitive_of : LiteralType → Option Simple
primitive_of t = primitive_in (out-LiteralType t)

abbrev pub source_primitive : Source → Option Simple
source_primitive (of_type t) = primitive_of t
source_primitive _ = None

-- the primitive type of what is bound, where that is known: of a promise by its type, of a written value by itself
abbrev pub bound_primitive_in : (Promised → Source) → BoundLayer → Option Simple
bound_primitive_in source (Bound-F.Promise node var) = source_primitive (source (source_node node, var))
bound_primitive_in source (Bound-F.Scalar literal) = option_and_then if_primitive (simple_type (out-Literal literal))
bound_primitive_in source _ = None

abbrev pub bound_primitive : (Promised → Source) → Bound → Option Simple
bound_primitive source x = bound_primitive_in source (out-Bound x)

-- the inputs of a branch with their types, which its conditions may name
abbrev pub branch_variables : (Promised → Source) → List Binding → List (Text × Simple)
branch_variables source bindings = filter_map (λ (x : Binding). option_map (λ s. (x.var, s)) (bound_primitive source x.bound)) bindings

-- the first fault of a case's condition over the branch's inputs; none where it has no condition
abbrev pub condition_fault : List (Text × Simple) → Case → Option ExprFault
condition_fault variables case = option_and_then (λ condition. slice_get (faults_of (value_of variables) condition) 0) case.condition
