-- A literal has fewer levels than a type that it is of.
use Rattle.std.proofs.Common.{◌≡◌, ℕ, zero, suc, ◌+◌, ◌-◌, ◌≤◌, List, [], ◌∷◌, map, Some, refl, ◌∙◌, ap, arith}
use Rattle.std.specs.List.{AllByRecursion as Each}
use Rattle.std.proofs.lemmas.List.Elements.{recursion_from_All}
use Rattle.fly_types.specs.declared.text.Text.{Text}
use Rattle.fly_types.specs.declared.kinds.LiteralType.{LiteralType, out-LiteralType}
use Rattle.fly_types.specs.declared.kinds.LiteralType.TheOpen.{LiteralType-F}
use Rattle.fly_types.specs.declared.literals.Literal.{Literal, out-Literal}
use Rattle.fly_types.specs.declared.literals.Literal.TheOpen.{Literal-F}
use Rattle.fly_types.specs.declared.literals.Literal.TheFolds.{fold_out-Literal, map-Literal}
use Rattle.fly_types.specs.declared.kinds.Simple.{Simple}
use Rattle.fly_types.specs.declared.kinds.BlobType.{BlobType}
use Rattle.fly_types.specs.Layer.{TypeLayer, LiteralLayer}
use Rattle.fly_types.specs.Membership.{IsMember, IsCollectionOf, IsMapOf, IsBlobOf, IsTextAmong, IsUnionWhere, IsVariant, simple_type}
use Rattle.fly_types.specs.Levels.{type_levels, literal_levels, literal_levels_by, largest}
use Rattle.fly_types.proofs.Member.{IsMemberAt}
use Rattle.fly_cast.proofs.Levels.{layer_levels, type_levels-out, type_levels-positive, variant-of}
use Rattle.fly_cast.proofs.Lists.{each-map}
use Rattle.fly_cast.proofs.Converts.{member-at}

values-mapped : (entries : List (Text × Literal))
    → map (λ (e : Text × ℕ). e.1) (map (λ (e : Text × Literal). (e.0, literal_levels e.1)) entries)
    ≡ map (λ (e : Text × Literal). literal_levels e.1) entries
values-mapped [] = refl
values-mapped (e ∷ es) = ap (λ ns. literal_levels e.1 ∷ ns) (values-mapped es)

abbrev depth : LiteralLayer → ℕ
depth (Literal-F.Union value variant) = 1 + literal_levels value
depth (Literal-F.Collection elements) = 1 + largest (map literal_levels elements)
depth (Literal-F.Map entries) = 1 + largest (map (λ (e : Text × Literal). literal_levels e.1) entries)
depth _ = 0

layer-depth : (l : Literal) (m : LiteralLayer) → out-Literal l ≡ m → literal_levels l ≡ depth m
layer-depth l (Literal-F.Map entries) e =
    fold_out-Literal ℕ literal_levels_by l ∙ ap (λ d. literal_levels_by (map-Literal Literal ℕ literal_levels d)) e
    ∙ ap (λ ns. 1 + largest ns) (values-mapped entries)
layer-depth l _ e = fold_out-Literal ℕ literal_levels_by l
    ∙ ap (λ d. literal_levels_by (map-Literal Literal ℕ literal_levels d)) e

largest-least : {X : Type 0} (f : X → ℕ) (n : ℕ) (xs : List X) → Each (λ x. f x ≤ n) xs → largest (map f xs) ≤ n
largest-least f n [] h = omega arith
largest-least f n (x ∷ xs) h = let here : f x ≤ n = h.0 in let rest : largest (map f xs) ≤ n =
    largest-least f n xs h.1 in omega arith

-- ---- at types of so many levels

abbrev BelowWithin : ℕ → Type 0
BelowWithin n = (l : Literal) (t : LiteralType) → type_levels t ≤ n → IsMember t l
    → literal_levels l + 1 ≤ type_levels t

simple-below : (s : Simple) (m : LiteralLayer) → simple_type m ≡ Some s → depth m ≡ 0
simple-below s (Literal-F.Union value variant) e = cc
simple-below s (Literal-F.Collection elements) e = cc
simple-below s (Literal-F.Map entries) e = cc
simple-below s _ e = refl

blob-below : (form : BlobType) (m : LiteralLayer) → IsBlobOf form m → depth m ≡ 0
blob-below form (Literal-F.Blob uri its_form) h = refl
blob-below form _ h = absurd h

enum-below : (values : List Text) (m : LiteralLayer) → IsTextAmong values m → depth m ≡ 0
enum-below values (Literal-F.Text text) h = refl
enum-below values _ h = absurd h

union-below : (n : ℕ) (ts : List LiteralType) (m : LiteralLayer) → BelowWithin n → largest (map type_levels ts) ≤ n
    → IsUnionWhere (λ variant value. IsVariant ts variant value) m → depth m ≤ largest (map type_levels ts)
union-below n ts (Literal-F.Union value variant) below le h =
    let of = variant-of ts variant value h in
    let low : literal_levels value + 1 ≤ type_levels variant = below value variant (omega (arith, of.0)) of.1 in
    omega (arith, of.0)
union-below n ts _ below le h = absurd h

collection-below : (n : ℕ) (x : LiteralType) (m : LiteralLayer) → BelowWithin n → type_levels x ≤ n
    → IsCollectionOf (IsMember x) m → depth m ≤ type_levels x
collection-below n x (Literal-F.Collection elements) below le h =
    let low : largest (map literal_levels elements) ≤ type_levels x - 1 =
    largest-least literal_levels (type_levels x - 1) elements
    (each-map (IsMember x) (λ e. literal_levels e ≤ type_levels x - 1) (λ e of. omega (arith, below e x le of)) elements
    (recursion_from_All (IsMember x) elements h)) in
    omega (arith, type_levels-positive x)
collection-below n x _ below le h = absurd h

map-below : (n : ℕ) (x : LiteralType) (m : LiteralLayer) → BelowWithin n → type_levels x ≤ n → IsMapOf (IsMember x) m
    → depth m ≤ type_levels x
map-below n x (Literal-F.Map entries) below le h =
    let low : largest (map (λ (e : Text × Literal). literal_levels e.1) entries) ≤ type_levels x - 1 =
    largest-least (λ (e : Text × Literal). literal_levels e.1) (type_levels x - 1) entries
    (each-map (λ e. IsMember x e.1) (λ e. literal_levels e.1 ≤ type_levels x - 1)
    (λ e of. omega (arith, below e.1 x le of)) entries
    (recursion_from_All (λ e. IsMember x e.1) entries h)) in
    omega (arith, type_levels-positive x)
map-below n x _ below le h = absurd h

layer-below : (n : ℕ) (l : Literal) (p : TypeLayer) → BelowWithin n → layer_levels p ≤ n + 1 → IsMemberAt p l
    → depth (out-Literal l) + 1 ≤ layer_levels p
layer-below n l (LiteralType-F.Simple s) below le h = omega (arith, simple-below s (out-Literal l) h)
layer-below n l (LiteralType-F.Collection x) below le h =
    omega (arith, collection-below n x (out-Literal l) below (omega arith) h)
layer-below n l (LiteralType-F.Map x) below le h = omega (arith, map-below n x (out-Literal l) below (omega arith) h)
layer-below n l (LiteralType-F.Blob form) below le h = omega (arith, blob-below form (out-Literal l) h)
layer-below n l (LiteralType-F.Enum values) below le h = omega (arith, enum-below values (out-Literal l) h)
layer-below n l (LiteralType-F.Union ts) below le h =
    omega (arith, union-below n ts (out-Literal l) below (omega arith) h)

below : (n : ℕ) → BelowWithin n
below zero l t le h = absurd (omega (arith, type_levels-positive t))
below (suc n) l t le h =
    let at : depth (out-Literal l) + 1 ≤ layer_levels (out-LiteralType t) =
    layer-below n l (out-LiteralType t) (below n) (omega (arith, type_levels-out t)) (member-at t l h) in
    omega (arith, type_levels-out t, layer-depth l (out-Literal l) refl)

pub member-levels : (l : Literal) (t : LiteralType) → IsMember t l → literal_levels l + 1 ≤ type_levels t
member-levels l t h = below (type_levels t) l t (omega arith) h
