-- The names of the variables that a list of bindings binds, as a table.
use Rattle.std.specs.Prelude.{◌≡◌, ℕ, Bool, not, List, filter}
use Rattle.std.specs.Borrow.{Bor}
use Rattle.std.specs.Ordering.{nat_cmp}
use Rattle.std.specs.Cmp.Lexicographic.{slice_cmp}
use Rattle.std.specs.declared.cmp.Ordering.{Ordering}
use Rattle.std.specs.List.{list_any}
use Rattle.std.specs.Str.{bytes_eq}
use Rattle.std.specs.BTreeSet.{BTreeSet, contains, contains_by}
use Rattle.fly_types.specs.declared.text.Text.{Text}
use Rattle.fly_types.specs.declared.variable.Variable.{Variable}
use Rattle.fly_docs.specs.declared.binding.Binding.{Binding}

abbrev pub Loan : Type 0
Loan = Bor (List ℕ)

abbrev pub loan_cmp : Loan → Loan → Ordering
loan_cmp x y = slice_cmp nat_cmp x.now y.now

-- the table has the names that are bound
abbrev pub HasNames : List Binding → BTreeSet Loan → Type 0
HasNames bindings names = (name : Loan) → contains loan_cmp names name ≡ list_any (λ (x : Binding). bytes_eq x.var name.now) bindings

-- the table has the name
abbrev pub has_name : BTreeSet Loan → Text → Bool
has_name names name = contains_by (λ (x : Loan). slice_cmp nat_cmp name x.now) names

-- those of the variables without a name in the table
abbrev pub unnamed : BTreeSet Loan → List Variable → List Variable
unnamed names variables = filter (λ (v : Variable). not (has_name names v.name)) variables
