-- What the layers above rest on, as laws over the definitions.
use Rattle.std.specs.Prelude.{◌≡◌, ◌↔◌, ◌||◌, if◌then◌else◌, IsTrue, Ok, Some}
use Rattle.fly_types.specs.declared.kinds.LiteralType.{LiteralType, out-LiteralType}
use Rattle.fly_types.specs.declared.literals.Literal.{Literal}
use Rattle.fly_types.specs.Membership.{IsMember}
use Rattle.fly_types.specs.Same.{same_type}
use Rattle.fly_types.specs.Sound.{IsSound}
use Rattle.fly_cast.specs.Castable.{is_castable_by_form, is_castable}
use Rattle.fly_cast.specs.Conversion.{conversion_by_form, conversion_of}
use Rattle.fly_cast.specs.Fitting.{is_of, fitting_by_form, fitting_of}
use Rattle.fly_cast.specs.Target.{IsTarget}

-- the test of membership, of which fitting speaks, is true exactly of members
abbrev pub DecidesMembership : Type 0
DecidesMembership = (t : LiteralType) (l : Literal) → IsTrue (is_of t l) ↔ IsMember t l

-- a type casts to itself
abbrev pub IsReflexive : Type 0
IsReflexive = (t : LiteralType) → IsTrue (is_castable t t)

-- a literal stays where the two types are equal
abbrev pub StaysAtEqualTypes : Type 0
StaysAtEqualTypes = (l : Literal) (t : LiteralType) → conversion_of l t t ≡ Ok l

-- a member of a type fits it as it is
abbrev pub MembersStay : Type 0
MembersStay = (l : Literal) (t : LiteralType) → IsMember t l → fitting_of l t ≡ Some l

-- the rules alone tell what casts, and no count of levels does
abbrev pub CastsByRules : Type 0
CastsByRules = (a b : LiteralType) → is_castable a b
    ≡ (same_type a b || is_castable_by_form is_castable a b (out-LiteralType a) (out-LiteralType b))

-- the rules alone tell what a member becomes
abbrev pub ConvertsByRules : Type 0
ConvertsByRules = (l : Literal) (a b : LiteralType) → IsMember a l
    → conversion_of l a b
    ≡ (if same_type a b then Ok l else conversion_by_form conversion_of l a b (out-LiteralType a) (out-LiteralType b))

-- the rules alone tell what fits
abbrev pub FitsByRules : Type 0
FitsByRules = (l : Literal) (t : LiteralType) → fitting_of l t
    ≡ (if is_of t l then Some l else fitting_by_form fitting_of l (out-LiteralType t))

-- what was converted is of the target type
abbrev pub ConversionReaches : Type 0
ConversionReaches = (l r : Literal) (a b : LiteralType) → IsMember a l → IsTrue (is_castable a b)
    → conversion_of l a b ≡ Ok r → IsMember b r

-- what was converted is sound where the literal was
abbrev pub ConversionStaysSound : Type 0
ConversionStaysSound =
    (l r : Literal) (a b : LiteralType) → IsMember a l → IsTrue (is_castable a b) → conversion_of l a b ≡ Ok r
    → IsSound l → IsTarget b → IsSound r

-- what was fitted is of the type
abbrev pub FittingReaches : Type 0
FittingReaches = (l r : Literal) (t : LiteralType) → fitting_of l t ≡ Some r → IsMember t r

-- what was fitted is sound where the literal was
abbrev pub FittingStaysSound : Type 0
FittingStaysSound = (l r : Literal) (t : LiteralType) → fitting_of l t ≡ Some r → IsSound l → IsTarget t → IsSound r
