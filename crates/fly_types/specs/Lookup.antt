-- The value and the variable of a name, and the order of names in which they are found.
use Rattle.std.specs.Prelude.{List, Option, option_map, map, bytes_eq}
use Rattle.std.specs.List.{find}
use Rattle.std.specs.List.Sorted.{IsStrictlySortedBy}
use Rattle.std.specs.Ordering.{nat_cmp}
use Rattle.std.specs.Cmp.Lexicographic.{slice_cmp}
use Rattle.fly_types.specs.declared.text.Text.{Text}
use Rattle.fly_types.specs.declared.variable.Variable.{Variable}

-- the value of the first entry that has the name
abbrev pub value_of : {X : Type 0} → List (Text × X) → Text → Option X
value_of entries name = option_map (λ entry. entry.1) (find (λ entry. bytes_eq entry.0 name) entries)

-- the first variable that has the name
abbrev pub variable_of : List Variable → Text → Option Variable
variable_of variables name = find (λ variable. bytes_eq variable.name name) variables

-- the names of the variables rise, by their bytes, so that they differ
abbrev pub AreVariablesSorted : List Variable → Type 0
AreVariablesSorted variables = IsStrictlySortedBy (slice_cmp nat_cmp) (map (λ variable. variable.name) variables)
