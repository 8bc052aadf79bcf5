-- A conversion between two types, decided once and written as steps, the outermost first.
use Rattle.std.specs.Prelude.{◌≡◌, ℕ, ◌+◌, ◌*◌, ◌≤◌, List, [], ◌∷◌, map, Option, Some, None, Result, Ok, Err, ⊤}
use Rattle.std.specs.Borrow.{Bor}
use Rattle.fly_types.specs.declared.text.Text.{Text}
use Rattle.fly_types.specs.declared.kinds.LiteralType.{LiteralType}
use Rattle.fly_types.specs.declared.literals.Literal.{Literal, out-Literal}
use Rattle.fly_types.specs.declared.literals.Literal.TheVariants as literal
use Rattle.fly_types.specs.Membership.{IsMember, IsCollectionOf, IsMapOf, IsUnionWhere, IsVariant}
use Rattle.fly_types.specs.Levels.{type_levels, largest}
use Rattle.fly_cast.specs.declared.plan.Step.{Step}
use Rattle.fly_cast.specs.declared.plan.Step.TheVariants as step
use Rattle.fly_cast.specs.Conversion.{Conversion, result_map, conversion_of_value, conversion_of_elements, conversion_of_entries, conversion_of_text, conversion_of}

-- what the steps make of a literal
abbrev pub conversion_by : List Step → Literal → Conversion
conversion_by [] l = Ok l
conversion_by (step.Texts values ∷ steps) l = conversion_of_text values.now l (out-Literal l)
conversion_by (step.TextsOfElements ∷ steps) l = conversion_of_elements (conversion_by steps) l (out-Literal l)
conversion_by (step.TextsOfValues ∷ steps) l = conversion_of_entries (conversion_by steps) l (out-Literal l)
conversion_by (step.Elements ∷ steps) l = conversion_of_elements (conversion_by steps) l (out-Literal l)
conversion_by (step.Values ∷ steps) l = conversion_of_entries (conversion_by steps) l (out-Literal l)
conversion_by (step.IntoUnion variant ∷ steps) l =
    result_map (λ value. literal.Union value variant.now) (conversion_by steps l)
conversion_by (step.FromUnion variants to ∷ steps) l =
    conversion_of_value (λ value variant. conversion_of value variant to.now) l (out-Literal l)

-- the steps only test texts, and leave each literal as it is
abbrev pub IsCheck : List Step → Type 0
IsCheck (step.Texts values ∷ steps) = ⊤
IsCheck (step.TextsOfElements ∷ steps) = IsCheck steps
IsCheck (step.TextsOfValues ∷ steps) = IsCheck steps
IsCheck _ = ⊥

-- a first step that tests the texts of elements or values stands before steps that only test
abbrev pub IsTestFirst : List Step → Type 0
IsTestFirst (step.TextsOfElements ∷ steps) = IsCheck steps
IsTestFirst (step.TextsOfValues ∷ steps) = IsCheck steps
IsTestFirst _ = ⊤

-- the literal has the parts that the steps go to
abbrev pub Suits : List Step → Literal → Type 0
Suits (step.TextsOfElements ∷ steps) l = IsCheck steps
Suits (step.TextsOfValues ∷ steps) l = IsCheck steps
Suits (step.Elements ∷ steps) l = IsCollectionOf (Suits steps) (out-Literal l)
Suits (step.Values ∷ steps) l = IsMapOf (Suits steps) (out-Literal l)
Suits (step.IntoUnion variant ∷ steps) l = Suits steps l
Suits (step.FromUnion variants to ∷ steps) l =
    IsUnionWhere (λ variant value. IsVariant variants.now variant value) (out-Literal l)
Suits _ l = ⊤

-- how far down the steps can still go
abbrev pub depth_of : List Step → ℕ
depth_of [] = 0
depth_of (step.FromUnion variants to ∷ steps) = 4 * (1 + largest (map type_levels variants.now) + type_levels to.now)
depth_of (_ ∷ steps) = 4 + depth_of steps

-- the steps convert the literals of type `a` to type `b`
pub record IsPlan (steps : List Step) (a b : LiteralType) : Type 0 where
  pub tests : IsTestFirst steps
  pub suits : (l : Literal) → IsMember a l → Suits steps l
  pub value : (l : Literal) → IsMember a l → conversion_by steps l ≡ conversion_of l a b
  pub depth : depth_of steps ≤ 4 * (type_levels a + type_levels b)

-- the steps for a container, of those for its parts: none where they stay, and a test where they are tested
abbrev pub steps_around : Step → Step → List Step → List Step
steps_around test rebuild [] = []
steps_around test rebuild (step.Texts values ∷ steps) = test ∷ step.Texts values ∷ steps
steps_around test rebuild (step.TextsOfElements ∷ steps) = test ∷ step.TextsOfElements ∷ steps
steps_around test rebuild (step.TextsOfValues ∷ steps) = test ∷ step.TextsOfValues ∷ steps
steps_around test rebuild steps = rebuild ∷ steps

-- no text is foreign, and all stays, or this is the first one
abbrev pub IsForeign : {X : Type 0} → Result X Text → X → Option (Bor Text) → Type 0
IsForeign wanted x None = wanted ≡ Ok x
IsForeign wanted x (Some text) = wanted ≡ Err text.now
