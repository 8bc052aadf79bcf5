-- The canonical bytes of a type are read one way.
use Rattle.std.proofs.Common.{◌≡◌, ℕ, List, [], ◌∷◌, ◌++◌, refl, sym, ◌∙◌, ap, subst, arith, map}
use Rattle.std.specs.Prelude.{⊤}
use Rattle.std.specs.List.{AllByRecursion}
use Rattle.std.proofs.lemmas.List.Elements.{recursion_from_All}
use Rattle.fly_types.specs.declared.text.Text.{Text}
use Rattle.fly_types.specs.declared.kinds.Simple.{Simple}
use Rattle.fly_types.specs.declared.kinds.Simple.TheVariants.{None, Integer, Text as Texts, Boolean, Datetime, Duration, Binary, Error, Struct}
use Rattle.fly_types.specs.declared.kinds.BlobType.{BlobType}
use Rattle.fly_types.specs.declared.kinds.LiteralType.{LiteralType, roll-LiteralType, out-LiteralType}
use Rattle.fly_types.specs.declared.kinds.LiteralType.TheOpen.{LiteralType-F}
use Rattle.fly_types.specs.declared.kinds.LiteralType.TheViews.{roll-out-LiteralType, out-roll-LiteralType}
use Rattle.fly_types.specs.declared.kinds.LiteralType.TheFolds.{ind-LiteralType, map-LiteralType, every_here-LiteralType, every_held-LiteralType}
use Rattle.fly_types.specs.Layer.{TypeLayer}
use Rattle.fly_types.specs.Sound.{IsShort, IsTypeLayerSound, HasSoundTypeParts}
use Rattle.fly_types.specs.Canonical.{flag_bytes, text_bytes, form_bytes, simple_number, type_bytes}
use Rattle.fly_types.proofs.Layers.{all_bytes, type_layer_bytes, type_bytes-roll}
use Rattle.fly_types.proofs.Tells.{Tells, heads, tails, flag_bytes-tells, both-tell, text_bytes-tells, AreAll, all-tell}

pub simple_number-tells : (s : Simple) → Tells (λ _. ⊤) (λ k. simple_number k ∷ []) s
simple_number-tells None None r s p q e = (refl, tails _ _ r s e)
simple_number-tells None _ r s p q e = let h = heads _ _ r s e in absurd (omega (arith, h))
simple_number-tells Integer Integer r s p q e = (refl, tails _ _ r s e)
simple_number-tells Integer _ r s p q e = let h = heads _ _ r s e in absurd (omega (arith, h))
simple_number-tells Texts Texts r s p q e = (refl, tails _ _ r s e)
simple_number-tells Texts _ r s p q e = let h = heads _ _ r s e in absurd (omega (arith, h))
simple_number-tells Boolean Boolean r s p q e = (refl, tails _ _ r s e)
simple_number-tells Boolean _ r s p q e = let h = heads _ _ r s e in absurd (omega (arith, h))
simple_number-tells Datetime Datetime r s p q e = (refl, tails _ _ r s e)
simple_number-tells Datetime _ r s p q e = let h = heads _ _ r s e in absurd (omega (arith, h))
simple_number-tells Duration Duration r s p q e = (refl, tails _ _ r s e)
simple_number-tells Duration _ r s p q e = let h = heads _ _ r s e in absurd (omega (arith, h))
simple_number-tells Binary Binary r s p q e = (refl, tails _ _ r s e)
simple_number-tells Binary _ r s p q e = let h = heads _ _ r s e in absurd (omega (arith, h))
simple_number-tells Error Error r s p q e = (refl, tails _ _ r s e)
simple_number-tells Error _ r s p q e = let h = heads _ _ r s e in absurd (omega (arith, h))
simple_number-tells Struct Struct r s p q e = (refl, tails _ _ r s e)
simple_number-tells Struct _ r s p q e = let h = heads _ _ r s e in absurd (omega (arith, h))

pub form_bytes-tells : (form : BlobType) → Tells (λ f. IsShort f.format) form_bytes form
form_bytes-tells form other r s p q e =
    let h = both-tell IsShort (λ _. ⊤) text_bytes flag_bytes form.format form.multipart (text_bytes-tells form.format) (flag_bytes-tells form.multipart)
    other.format other.multipart r s p tt q tt e in
    (λ i. record { format = h.0 i; multipart = h.1 i }, h.2)

pub texts-tell : (texts : List Text) → Tells (AreAll IsShort) (all_bytes text_bytes) texts
texts-tell texts = all-tell IsShort text_bytes texts (each texts)
  where
    each : (ts : List Text) → AllByRecursion (Tells IsShort text_bytes) ts
    each [] = tt
    each (t ∷ ts) = (text_bytes-tells t, each ts)

-- the property holds of the types that the layer holds
abbrev pub TypesHeld : (LiteralType → Type 0) → TypeLayer → Type 0
TypesHeld P (LiteralType-F.Collection t) = P t
TypesHeld P (LiteralType-F.Map t) = P t
TypesHeld P (LiteralType-F.Union ts) = AllByRecursion P ts
TypesHeld P _ = ⊤

list_held : (P : LiteralType → Type 0) (es : List ((t : LiteralType) × P t)) → AllByRecursion P (map (λ e. e.0) es)
list_held P [] = tt
list_held P (e ∷ es) = (e.1, list_held P es)

held_from : (P : LiteralType → Type 0) (x : LiteralType-F ((t : LiteralType) × P t)) → TypesHeld P (map-LiteralType ((t : LiteralType) × P t) LiteralType (λ e. e.0) x)
held_from P (LiteralType-F.Simple s) = tt
held_from P (LiteralType-F.Collection e) = e.1
held_from P (LiteralType-F.Map e) = e.1
held_from P (LiteralType-F.Blob form) = tt
held_from P (LiteralType-F.Enum values) = tt
held_from P (LiteralType-F.Union es) = list_held P es

abbrev pub IsSoundLayer : TypeLayer → Type 0
IsSoundLayer z = IsTypeLayerSound z × TypesHeld HasSoundTypeParts z

pub sound_layer : (t : LiteralType) → HasSoundTypeParts t → IsSoundLayer (out-LiteralType t)
sound_layer t p =
    let h = every_held-LiteralType IsTypeLayerSound t p in
    (every_here-LiteralType IsTypeLayerSound t p, subst (TypesHeld HasSoundTypeParts) h.1 (held_from HasSoundTypeParts h.0))

abbrev TypeTells : LiteralType → Type 0
TypeTells = Tells HasSoundTypeParts type_bytes

layer_tells : (z : TypeLayer) → TypesHeld TypeTells z → (w : TypeLayer) (r s : List ℕ) → IsSoundLayer z → IsSoundLayer w → type_layer_bytes z ++ r ≡ type_layer_bytes w ++ s → (z ≡ w) × (r ≡ s)
layer_tells (LiteralType-F.Simple a) t (LiteralType-F.Simple b) r s p q e =
    let h = simple_number-tells a b r s tt tt (tails _ _ _ _ e) in (ap LiteralType-F.Simple h.0, h.1)
layer_tells (LiteralType-F.Simple a) t w r s p q e = let h = heads _ _ _ _ e in absurd (omega (arith, h))
layer_tells (LiteralType-F.Collection a) t (LiteralType-F.Collection b) r s p q e =
    let h = t b r s p.1 q.1 (tails _ _ _ _ e) in (ap LiteralType-F.Collection h.0, h.1)
layer_tells (LiteralType-F.Collection a) t w r s p q e = let h = heads _ _ _ _ e in absurd (omega (arith, h))
layer_tells (LiteralType-F.Map a) t (LiteralType-F.Map b) r s p q e =
    let h = t b r s p.1 q.1 (tails _ _ _ _ e) in (ap LiteralType-F.Map h.0, h.1)
layer_tells (LiteralType-F.Map a) t w r s p q e = let h = heads _ _ _ _ e in absurd (omega (arith, h))
layer_tells (LiteralType-F.Blob a) t (LiteralType-F.Blob b) r s p q e =
    let h = form_bytes-tells a b r s p.0 q.0 (tails _ _ _ _ e) in (ap LiteralType-F.Blob h.0, h.1)
layer_tells (LiteralType-F.Blob a) t w r s p q e = let h = heads _ _ _ _ e in absurd (omega (arith, h))
layer_tells (LiteralType-F.Enum a) t (LiteralType-F.Enum b) r s p q e =
    let h = texts-tell a b r s (p.0.0, recursion_from_All IsShort a p.0.1) (q.0.0, recursion_from_All IsShort b q.0.1) (tails _ _ _ _ e) in
    (ap LiteralType-F.Enum h.0, h.1)
layer_tells (LiteralType-F.Enum a) t w r s p q e = let h = heads _ _ _ _ e in absurd (omega (arith, h))
layer_tells (LiteralType-F.Union a) t (LiteralType-F.Union b) r s p q e =
    let h = all-tell HasSoundTypeParts type_bytes a t b r s p q (tails _ _ _ _ e) in (ap LiteralType-F.Union h.0, h.1)
layer_tells (LiteralType-F.Union a) t w r s p q e = let h = heads _ _ _ _ e in absurd (omega (arith, h))

rolled_tells : (z : TypeLayer) → TypesHeld TypeTells z → TypeTells (roll-LiteralType z)
rolled_tells z t b r s p q e =
    let back : roll-LiteralType (out-LiteralType b) ≡ b = roll-out-LiteralType b in
    let e' : type_layer_bytes z ++ r ≡ type_layer_bytes (out-LiteralType b) ++ s =
    ap (λ bs. bs ++ r) (sym (type_bytes-roll z)) ∙ e ∙ ap (λ bs. bs ++ s) (ap type_bytes (sym back) ∙ type_bytes-roll (out-LiteralType b)) in
    let here : IsSoundLayer z = subst IsSoundLayer (out-roll-LiteralType z) (sound_layer (roll-LiteralType z) p) in
    let h = layer_tells z t (out-LiteralType b) r s here (sound_layer b q) e' in
    (ap roll-LiteralType h.0 ∙ back, h.1)

pub type_bytes-tells : (t : LiteralType) → Tells HasSoundTypeParts type_bytes t
type_bytes-tells = ind-LiteralType TypeTells (λ x y is. subst (λ z. TypeTells (roll-LiteralType z)) is (rolled_tells _ (held_from TypeTells y)))
