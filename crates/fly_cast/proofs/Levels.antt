-- The levels of a type and of its parts.
use Rattle.std.proofs.Common.{◌≡◌, ℕ, zero, suc, ◌+◌, ◌<◌, ◌≤◌, List, [], ◌∷◌, map, length, get_or, sym, ◌∙◌, ap, subst, arith, inl, inr, Bool, filter, Some}
use Rattle.std.specs.List.{AllByRecursion as Each}
use Rattle.fly_types.specs.declared.kinds.LiteralType.{LiteralType, out-LiteralType, roll-LiteralType}
use Rattle.fly_types.specs.declared.kinds.LiteralType.TheOpen.{LiteralType-F}
use Rattle.fly_types.specs.declared.kinds.LiteralType.TheViews.{roll-out-LiteralType}
use Rattle.fly_types.specs.declared.kinds.LiteralType.TheFolds.{fold-roll-LiteralType}
use Rattle.fly_types.specs.declared.literals.Literal.{Literal}
use Rattle.fly_types.specs.Layer.{TypeLayer}
use Rattle.fly_types.specs.Membership.{IsMember, IsVariant}
use Rattle.fly_cast.specs.Castable.{sole_element}
use Rattle.fly_cast.proofs.Lists.{sole_element-has}
use Rattle.fly_types.specs.Levels.{type_levels, type_levels_by, largest}

abbrev pub layer_levels : TypeLayer → ℕ
layer_levels (LiteralType-F.Collection element) = 1 + type_levels element
layer_levels (LiteralType-F.Map value) = 1 + type_levels value
layer_levels (LiteralType-F.Union variants) = 1 + largest (map type_levels variants)
layer_levels _ = 1

pub type_levels-roll : (d : TypeLayer) → type_levels (roll-LiteralType d) ≡ layer_levels d
type_levels-roll (LiteralType-F.Simple s) = fold-roll-LiteralType ℕ type_levels_by (LiteralType-F.Simple s)
type_levels-roll (LiteralType-F.Collection element) =
    fold-roll-LiteralType ℕ type_levels_by (LiteralType-F.Collection element)
type_levels-roll (LiteralType-F.Map value) = fold-roll-LiteralType ℕ type_levels_by (LiteralType-F.Map value)
type_levels-roll (LiteralType-F.Blob form) = fold-roll-LiteralType ℕ type_levels_by (LiteralType-F.Blob form)
type_levels-roll (LiteralType-F.Enum values) = fold-roll-LiteralType ℕ type_levels_by (LiteralType-F.Enum values)
type_levels-roll (LiteralType-F.Union variants) = fold-roll-LiteralType ℕ type_levels_by (LiteralType-F.Union variants)

pub type_levels-out : (t : LiteralType) → type_levels t ≡ layer_levels (out-LiteralType t)
type_levels-out t = ap type_levels (sym (roll-out-LiteralType t)) ∙ type_levels-roll (out-LiteralType t)

pub layer_levels-positive : (d : TypeLayer) → 1 ≤ layer_levels d
layer_levels-positive (LiteralType-F.Simple s) = omega arith
layer_levels-positive (LiteralType-F.Collection element) = omega arith
layer_levels-positive (LiteralType-F.Map value) = omega arith
layer_levels-positive (LiteralType-F.Blob form) = omega arith
layer_levels-positive (LiteralType-F.Enum values) = omega arith
layer_levels-positive (LiteralType-F.Union variants) = omega arith

pub type_levels-positive : (t : LiteralType) → 1 ≤ type_levels t
type_levels-positive t = rw (type_levels-out t) (layer_levels-positive (out-LiteralType t))

-- each variant of a union is below it
pub variants-below : (n : ℕ) (ts : List LiteralType) → largest (map type_levels ts) ≤ n
    → Each (λ t. type_levels t ≤ n) ts
variants-below n [] h = tt
variants-below n (t ∷ ts) h = (omega arith, variants-below n ts (omega arith))

pub variant-levels : (ts : List LiteralType) (i : ℕ) (t : LiteralType) → i < length ts → t ≡ get_or ts i t
    → type_levels t ≤ largest (map type_levels ts)
variant-levels [] i t lt is = absurd (omega arith)
variant-levels (s ∷ ts) zero t lt is = let e : type_levels t ≡ type_levels s = ap type_levels is in omega arith
variant-levels (s ∷ ts) (suc i) t lt is = let h : type_levels t ≤ largest (map type_levels ts) =
    variant-levels ts i t (omega arith) is in omega arith

-- a variant of a union, under which a value stands
pub variant-of : (ts : List LiteralType) (variant : LiteralType) (value : Literal) → IsVariant ts variant value
    → (type_levels variant ≤ largest (map type_levels ts)) × IsMember variant value
variant-of [] variant value h = absurd h
variant-of (t ∷ ts) variant value (inl h) =
    let e : type_levels variant ≡ type_levels t = ap type_levels h.0 in
    (omega arith, subst (λ s. IsMember s value) (sym h.0) h.1)
variant-of (t ∷ ts) variant value (inr h) = let rest = variant-of ts variant value h in (omega (arith, rest.0), rest.1)

-- the variant that alone passes a test
pub sole_element-levels : (p : LiteralType → Bool) (ts : List LiteralType) (t : LiteralType)
    → sole_element (filter p ts) ≡ Some t
    → type_levels t ≤ largest (map type_levels ts)
sole_element-levels p ts t e =
    sole_element-has (λ s. type_levels s ≤ largest (map type_levels ts)) p ts t e
    (variants-below (largest (map type_levels ts)) ts (omega arith))
