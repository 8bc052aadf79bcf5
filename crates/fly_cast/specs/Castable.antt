-- Which types cast to which.
use Rattle.std.specs.Prelude.{ℕ, zero, suc, ◌+◌, Bool, true, false, ◌||◌, List, [], ◌∷◌, filter, Option, Some, None, is_some}
use Rattle.std.specs.List.{list_all, list_any}
use Rattle.std.specs.Str.{bytes_eq}
use Rattle.fly_types.specs.declared.text.Text.{Text}
use Rattle.fly_types.specs.declared.kinds.Simple.TheVariants as simple
use Rattle.fly_types.specs.declared.kinds.LiteralType.{LiteralType, out-LiteralType}
use Rattle.fly_types.specs.declared.kinds.LiteralType.TheOpen.{LiteralType-F}
use Rattle.fly_types.specs.Layer.{TypeLayer}
use Rattle.fly_types.specs.Same.{same_type}
use Rattle.fly_types.specs.Levels.{type_levels}

-- the text is a value of the enum
abbrev pub is_among : List Text → Text → Bool
is_among values text = list_any (bytes_eq text) values

-- the element of a list that has just one
abbrev pub sole_element : {X : Type 0} → List X → Option X
sole_element (x ∷ []) = Some x
sole_element _ = None

-- an enum goes where a text is wanted, a text where an enum is, and an enum where all its values are values too
abbrev pub is_enum_castable : TypeLayer → TypeLayer → Bool
is_enum_castable (LiteralType-F.Enum values) (LiteralType-F.Simple simple.Text) = true
is_enum_castable (LiteralType-F.Simple simple.Text) (LiteralType-F.Enum values) = true
is_enum_castable (LiteralType-F.Enum values) (LiteralType-F.Enum others) = list_all (is_among others) values
is_enum_castable _ _ = false

-- The rules for two types that differ, the first that fits; `casts` tells which parts cast. A union casts where each of
-- its variants does, and another type casts into a union where exactly one variant takes it.
abbrev pub is_castable_by_form : (LiteralType → LiteralType → Bool) → LiteralType → LiteralType → TypeLayer
    → TypeLayer → Bool
is_castable_by_form casts a b (LiteralType-F.Union variants) _ = list_all (λ variant. casts variant b) variants
is_castable_by_form casts a b _ (LiteralType-F.Union variants) = is_some (sole_element (filter (casts a) variants))
is_castable_by_form casts a b (LiteralType-F.Collection from) (LiteralType-F.Collection to) = casts from to
is_castable_by_form casts a b (LiteralType-F.Map from) (LiteralType-F.Map to) = casts from to
is_castable_by_form casts a b from to = is_enum_castable from to

-- with so many levels of the two types to go
unfoldable pub is_castable_within : ℕ → LiteralType → LiteralType → Bool
is_castable_within zero a b = false
is_castable_within (suc n) a b =
    same_type a b || is_castable_by_form (is_castable_within n) a b (out-LiteralType a) (out-LiteralType b)

-- a literal of type `a` may go where one of type `b` is wanted: each rule goes down a level of one of the two
unfoldable pub is_castable : LiteralType → LiteralType → Bool
is_castable a b = is_castable_within (type_levels a + type_levels b) a b
