-- Interfaces (`core/interface.proto` of flyteidl), and the names in them and in bindings (`core/literals.proto`).
use Rattle.std.specs.Prelude.{ℕ, List, [], ◌∷◌, map, filter, find, Bool, ◌&&◌, Option, option_map}
use Rattle.std.specs.List.{list_all, list_any}
use Rattle.std.specs.Str.{bytes_eq}
use Rattle.std.specs.Ordering.{nat_cmp}
use Rattle.std.specs.Cmp.Lexicographic.{slice_cmp}
use Rattle.std.specs.List.Sorted.{IsStrictlySortedBy}
use Rattle.fly_types.specs.declared.text.Text.{Text}
use Rattle.fly_types.specs.declared.kinds.LiteralType.{LiteralType}
use Rattle.fly_types.specs.declared.variable.Variable.{Variable}
use Rattle.fly_types.specs.Same.{same_type}
use Rattle.fly_docs.specs.declared.binding.Binding.{Binding}
use Rattle.fly_docs.specs.declared.binding.Bound.{Bound}
use Rattle.fly_docs.specs.declared.binding.Bound.TheVariants.{Promise}

-- the names, in their order
abbrev pub names_of : List Variable → List (List ℕ)
names_of variables = map (λ v. v.name) variables

-- the variables that are bound, in their order
abbrev pub bound_names : List Binding → List (List ℕ)
bound_names bindings = map (λ b. b.var) bindings

-- the names ascend by their bytes, so none comes twice
abbrev pub AreInOrder : List (List ℕ) → Type 0
AreInOrder names = IsStrictlySortedBy (slice_cmp nat_cmp) names

-- the type of the variable of this name
abbrev pub type_of : Text → List Variable → Option LiteralType
type_of name variables = option_map (λ (v : Variable). v.kind) (find (λ (v : Variable). bytes_eq v.name name) variables)

-- the list has a variable of the same name and type
abbrev pub has_variable : List Variable → Variable → Bool
has_variable variables v = list_any (λ (x : Variable). bytes_eq x.name v.name && same_type x.kind v.kind) variables

-- the variables that stand in all of the lists with equal types, in the order of the first
abbrev pub common_variables : List (List Variable) → List Variable
common_variables [] = []
common_variables (variables ∷ others) = filter (λ v. list_all (λ other. has_variable other v) others) variables

-- of a promise, the node that is promised from, and its output
abbrev pub promised_node : Bound → List ℕ
promised_node (Promise node var) = node
promised_node _ = []

abbrev pub promised_var : Bound → List ℕ
promised_var (Promise node var) = var
promised_var _ = []
