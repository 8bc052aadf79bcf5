-- The equation of membership at one layer of a type.
use Rattle.std.proofs.Common.{◌≡◌, ◌↔◌, ◌⊎◌, List, [], ◌∷◌, Bool, IsTrue, refl, sym, ◌∙◌, ap, subst, map}
use Rattle.fly_types.specs.declared.kinds.LiteralType.{LiteralType, roll-LiteralType, out-LiteralType}
use Rattle.fly_types.specs.declared.kinds.LiteralType.TheOpen.{LiteralType-F}
use Rattle.fly_types.specs.declared.kinds.LiteralType.TheViews.{roll-out-LiteralType}
use Rattle.fly_types.specs.declared.kinds.LiteralType.TheFolds.{map-LiteralType, rec-roll-LiteralType}
use Rattle.fly_types.specs.declared.literals.Literal.{Literal, out-Literal}
use Rattle.fly_types.specs.Layer.{TypeLayer}
use Rattle.fly_types.specs.Membership.{IsMember, IsMemberBy, IsUnionWhere, Some_of}

some_of-map : (X : Type 0) (v : X → LiteralType) (k : LiteralType → Literal → Type 0) (variant : LiteralType) (value : Literal) (ts : List X)
    → Some_of (λ p. (variant ≡ v p) × k (v p) value) ts ≡ Some_of (λ t. (variant ≡ t) × k t value) (map v ts)
some_of-map X v k variant value [] = refl
some_of-map X v k variant value (t ∷ ts) = λ i. ((variant ≡ v t) × k (v t) value) ⊎ some_of-map X v k variant value ts i

natural : (X : Type 0) (v : X → LiteralType) (k : LiteralType → Literal → Type 0) (x : LiteralType-F X)
    → IsMemberBy X v (λ p. k (v p)) x ≡ IsMemberBy LiteralType (λ y. y) k (map-LiteralType X LiteralType v x)
natural X v k (LiteralType-F.Simple s) = refl
natural X v k (LiteralType-F.Collection t) = refl
natural X v k (LiteralType-F.Map t) = refl
natural X v k (LiteralType-F.Blob form) = refl
natural X v k (LiteralType-F.Enum values) = refl
natural X v k (LiteralType-F.Union ts) = λ i l. IsUnionWhere (λ variant value. some_of-map X v k variant value ts i) (out-Literal l)

abbrev pub IsMemberAt : TypeLayer → Literal → Type 0
IsMemberAt = IsMemberBy LiteralType (λ t. t) IsMember

pub IsMember-roll : (d : TypeLayer) → IsMember (roll-LiteralType d) ≡ IsMemberAt d
IsMember-roll d = rec-roll-LiteralType (Literal → Type 0) IsMemberBy natural d

pub IsMember-out : (t : LiteralType) → IsMember t ≡ IsMemberAt (out-LiteralType t)
IsMember-out t = ap IsMember (sym (roll-out-LiteralType t)) ∙ IsMember-roll (out-LiteralType t)

-- what an answer says of a layer it says of the type
pub answers_member : (t : LiteralType) (d : TypeLayer) (l : Literal) (r : Bool) → out-LiteralType t ≡ d → (IsTrue r ↔ IsMemberAt d l) → (IsTrue r ↔ IsMember t l)
answers_member t d l r e h =
    let p : IsMemberAt d ≡ IsMember t = sym (IsMember-out t ∙ ap IsMemberAt e) in
    subst (λ (P : Literal → Type 0). IsTrue r ↔ P l) p h
