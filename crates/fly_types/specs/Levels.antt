-- How deep types, literals and the content of a STRUCT nest.
use Rattle.std.specs.Prelude.{ℕ, ◌+◌, max, List, [], ◌∷◌, map}
use Rattle.fly_types.specs.declared.kinds.LiteralType.{LiteralType}
use Rattle.fly_types.specs.declared.kinds.LiteralType.TheOpen.{LiteralType-F}
use Rattle.fly_types.specs.declared.kinds.LiteralType.TheFolds.{fold-LiteralType}
use Rattle.fly_types.specs.declared.literals.Literal.{Literal}
use Rattle.fly_types.specs.declared.literals.Literal.TheOpen.{Literal-F}
use Rattle.fly_types.specs.declared.literals.Literal.TheFolds.{fold-Literal}
use Rattle.fly_types.specs.declared.literals.Tree.{Tree}
use Rattle.fly_types.specs.declared.literals.Tree.TheOpen.{Tree-F}
use Rattle.fly_types.specs.declared.literals.Tree.TheFolds.{fold-Tree}

abbrev pub max_levels : ℕ
max_levels = 16

abbrev pub largest : List ℕ → ℕ
largest [] = 0
largest (n ∷ ns) = max n (largest ns)

-- a type without parts is one level, and a collection, a map or a union one more than its deepest part
abbrev pub type_levels_by : LiteralType-F ℕ → ℕ
type_levels_by (LiteralType-F.Collection element) = 1 + element
type_levels_by (LiteralType-F.Map value) = 1 + value
type_levels_by (LiteralType-F.Union variants) = 1 + largest variants
type_levels_by _ = 1

abbrev pub type_levels : LiteralType → ℕ
type_levels = fold-LiteralType ℕ type_levels_by

-- how deep collections, maps and unions nest
abbrev pub literal_levels_by : Literal-F ℕ → ℕ
literal_levels_by (Literal-F.Union value variant) = 1 + value
literal_levels_by (Literal-F.Collection elements) = 1 + largest elements
literal_levels_by (Literal-F.Map entries) = 1 + largest (map (λ entry. entry.1) entries)
literal_levels_by _ = 0

abbrev pub literal_levels : Literal → ℕ
literal_levels = fold-Literal ℕ literal_levels_by

-- how deep lists and objects nest
abbrev pub tree_levels_by : Tree-F ℕ → ℕ
tree_levels_by (Tree-F.List trees) = 1 + largest trees
tree_levels_by (Tree-F.Object members) = 1 + largest (map (λ member. member.1) members)
tree_levels_by _ = 0

abbrev pub tree_levels : Tree → ℕ
tree_levels = fold-Tree ℕ tree_levels_by
