-- The canonical bytes of a literal are read one way.
use Rattle.std.proofs.Common.{◌≡◌, ℕ, ◌<◌, ◌^◌, List, [], ◌∷◌, ◌++◌, refl, sym, ◌∙◌, ap, subst, arith, map}
use Rattle.std.specs.Prelude.{⊤, ℤ, pos, negsuc, FitsSigned}
use Rattle.std.specs.Int.{w32, w64}
use Rattle.std.specs.List.{AllByRecursion}
use Rattle.std.proofs.lemmas.Int.{ints}
use Rattle.fly_types.specs.declared.text.Text.{Text}
use Rattle.fly_types.specs.declared.literals.Literal.{Literal, roll-Literal, out-Literal}
use Rattle.fly_types.specs.declared.literals.Literal.TheOpen.{Literal-F}
use Rattle.fly_types.specs.declared.literals.Literal.TheViews.{roll-out-Literal, out-roll-Literal}
use Rattle.fly_types.specs.declared.literals.Literal.TheFolds.{ind-Literal, map-Literal, every_here-Literal, every_held-Literal}
use Rattle.fly_types.specs.Layer.{LiteralLayer}
use Rattle.fly_types.specs.Sound.{IsShort, IsInstant, IsSpan, IsLiteralLayerSound, HasSoundParts, HasSoundTypeParts}
use Rattle.fly_types.specs.Canonical.{number_bytes, signed_bytes, text_bytes, form_bytes, type_bytes, literal_bytes}
use Rattle.fly_types.proofs.Layers.{literal_layer_bytes, literal_bytes-roll}
use Rattle.fly_types.proofs.Tells.{Tells, heads, tails, flag_bytes-tells, signed_bytes-tells_8, signed_bytes-tells_4, number_bytes-tells_4, both-tell, text_bytes-tells, all-tell, IsEntry, entry_of, entries-tell, are_entries}
use Rattle.fly_types.proofs.TypeTells.{form_bytes-tells, type_bytes-tells}
use Rattle.fly_types.proofs.TreeTells.{tree_bytes-tells}

instant_fits : (seconds : ℤ) (nanos : ℕ) → IsInstant seconds nanos → FitsSigned w64 seconds
instant_fits (pos n) nanos h = record { sfits = omega (arith, ints, h.before_last) }
instant_fits (negsuc n) nanos h = record { sfits = omega (arith, ints, h.after_first) }

nanos_fit : (nanos : ℕ) → nanos < 10 ^ 9 → nanos < 2 ^ 32
nanos_fit nanos h = omega arith

span_fits : (seconds nanos : ℤ) → IsSpan seconds nanos → FitsSigned w64 seconds
span_fits (pos n) nanos h = record { sfits = omega (arith, h.within) }
span_fits (negsuc n) nanos h = record { sfits = omega (arith, h.within) }

span_nanos_fit : (seconds nanos : ℤ) → IsSpan seconds nanos → FitsSigned w32 nanos
span_nanos_fit seconds (pos n) h = record { sfits = omega (arith, h.nanos_below) }
span_nanos_fit seconds (negsuc n) h = record { sfits = omega (arith, h.nanos_below) }

-- the property holds of the literals that the layer holds
abbrev pub LiteralsHeld : (Literal → Type 0) → LiteralLayer → Type 0
LiteralsHeld P (Literal-F.Union value variant) = P value
LiteralsHeld P (Literal-F.Collection ls) = AllByRecursion P ls
LiteralsHeld P (Literal-F.Map es) = AllByRecursion (λ e. P e.1) es
LiteralsHeld P _ = ⊤

list_held : (P : Literal → Type 0) (es : List ((l : Literal) × P l)) → AllByRecursion P (map (λ e. e.0) es)
list_held P [] = tt
list_held P (e ∷ es) = (e.1, list_held P es)

entries_held : (P : Literal → Type 0) (es : List (Text × ((l : Literal) × P l))) → AllByRecursion (λ (e : Text × Literal). P e.1) (map (λ e. (e.0, e.1.0)) es)
entries_held P [] = tt
entries_held P (e ∷ es) = (e.1.1, entries_held P es)

held_from : (P : Literal → Type 0) (x : Literal-F ((l : Literal) × P l)) → LiteralsHeld P (map-Literal ((l : Literal) × P l) Literal (λ e. e.0) x)
held_from P (Literal-F.Union e variant) = e.1
held_from P (Literal-F.Collection es) = list_held P es
held_from P (Literal-F.Map es) = entries_held P es
held_from P Literal-F.None = tt
held_from P (Literal-F.Integer value) = tt
held_from P (Literal-F.Text text) = tt
held_from P (Literal-F.Boolean value) = tt
held_from P (Literal-F.Datetime seconds nanos) = tt
held_from P (Literal-F.Duration seconds nanos) = tt
held_from P (Literal-F.Blob uri form) = tt
held_from P (Literal-F.Binary value tag) = tt
held_from P (Literal-F.Error node message) = tt
held_from P (Literal-F.Generic tree) = tt

abbrev pub IsSoundLayer : LiteralLayer → Type 0
IsSoundLayer z = IsLiteralLayerSound z × LiteralsHeld HasSoundParts z

pub sound_layer : (l : Literal) → HasSoundParts l → IsSoundLayer (out-Literal l)
sound_layer l p =
    let h = every_held-Literal IsLiteralLayerSound l p in
    (every_here-Literal IsLiteralLayerSound l p, subst (LiteralsHeld HasSoundParts) h.1 (held_from HasSoundParts h.0))

abbrev LiteralTells : Literal → Type 0
LiteralTells = Tells HasSoundParts literal_bytes

layer_tells : (z : LiteralLayer) → LiteralsHeld LiteralTells z → (w : LiteralLayer) (r s : List ℕ) → IsSoundLayer z → IsSoundLayer w → literal_layer_bytes z ++ r ≡ literal_layer_bytes w ++ s → (z ≡ w) × (r ≡ s)
layer_tells Literal-F.None t Literal-F.None r s p q e = (refl, tails _ _ _ _ e)
layer_tells Literal-F.None t w r s p q e = let h = heads _ _ _ _ e in absurd (omega (arith, h))
layer_tells (Literal-F.Integer a) t (Literal-F.Integer b) r s p q e =
    let h = signed_bytes-tells_8 a b r s p.0 q.0 (tails _ _ _ _ e) in (ap Literal-F.Integer h.0, h.1)
layer_tells (Literal-F.Integer a) t w r s p q e = let h = heads _ _ _ _ e in absurd (omega (arith, h))
layer_tells (Literal-F.Text a) t (Literal-F.Text b) r s p q e =
    let h = text_bytes-tells a b r s p.0 q.0 (tails _ _ _ _ e) in (ap Literal-F.Text h.0, h.1)
layer_tells (Literal-F.Text a) t w r s p q e = let h = heads _ _ _ _ e in absurd (omega (arith, h))
layer_tells (Literal-F.Boolean a) t (Literal-F.Boolean b) r s p q e =
    let h = flag_bytes-tells a b r s tt tt (tails _ _ _ _ e) in (ap Literal-F.Boolean h.0, h.1)
layer_tells (Literal-F.Boolean a) t w r s p q e = let h = heads _ _ _ _ e in absurd (omega (arith, h))
layer_tells (Literal-F.Datetime a m) t (Literal-F.Datetime b n) r s p q e =
    let h = both-tell (FitsSigned w64) (λ k. k < 2 ^ 32) (signed_bytes w64) (number_bytes w32) a m (signed_bytes-tells_8 a) (number_bytes-tells_4 m) b n r s
    (instant_fits a m p.0) (nanos_fit m p.0.nanos_below) (instant_fits b n q.0) (nanos_fit n q.0.nanos_below) (tails _ _ _ _ e) in
    (λ i. Literal-F.Datetime (h.0 i) (h.1 i), h.2)
layer_tells (Literal-F.Datetime a m) t w r s p q e = let h = heads _ _ _ _ e in absurd (omega (arith, h))
layer_tells (Literal-F.Duration a m) t (Literal-F.Duration b n) r s p q e =
    let h = both-tell (FitsSigned w64) (FitsSigned w32) (signed_bytes w64) (signed_bytes w32) a m (signed_bytes-tells_8 a) (signed_bytes-tells_4 m) b n r s
    (span_fits a m p.0) (span_nanos_fit a m p.0) (span_fits b n q.0) (span_nanos_fit b n q.0) (tails _ _ _ _ e) in
    (λ i. Literal-F.Duration (h.0 i) (h.1 i), h.2)
layer_tells (Literal-F.Duration a m) t w r s p q e = let h = heads _ _ _ _ e in absurd (omega (arith, h))
layer_tells (Literal-F.Blob a f) t (Literal-F.Blob b g) r s p q e =
    let h = both-tell IsShort (λ k. IsShort k.format) text_bytes form_bytes a f (text_bytes-tells a) (form_bytes-tells f) b g r s p.0.0 p.0.1 q.0.0 q.0.1 (tails _ _ _ _ e) in
    (λ i. Literal-F.Blob (h.0 i) (h.1 i), h.2)
layer_tells (Literal-F.Blob a f) t w r s p q e = let h = heads _ _ _ _ e in absurd (omega (arith, h))
layer_tells (Literal-F.Binary a f) t (Literal-F.Binary b g) r s p q e =
    let h = both-tell IsShort IsShort text_bytes text_bytes a f (text_bytes-tells a) (text_bytes-tells f) b g r s p.0.0 p.0.1 q.0.0 q.0.1 (tails _ _ _ _ e) in
    (λ i. Literal-F.Binary (h.0 i) (h.1 i), h.2)
layer_tells (Literal-F.Binary a f) t w r s p q e = let h = heads _ _ _ _ e in absurd (omega (arith, h))
layer_tells (Literal-F.Error a f) t (Literal-F.Error b g) r s p q e =
    let h = both-tell IsShort IsShort text_bytes text_bytes a f (text_bytes-tells a) (text_bytes-tells f) b g r s p.0.0 p.0.1 q.0.0 q.0.1 (tails _ _ _ _ e) in
    (λ i. Literal-F.Error (h.0 i) (h.1 i), h.2)
layer_tells (Literal-F.Error a f) t w r s p q e = let h = heads _ _ _ _ e in absurd (omega (arith, h))
layer_tells (Literal-F.Generic a) t (Literal-F.Generic b) r s p q e =
    let h = tree_bytes-tells a b r s p.0.parts q.0.parts (tails _ _ _ _ e) in (ap Literal-F.Generic h.0, h.1)
layer_tells (Literal-F.Generic a) t w r s p q e = let h = heads _ _ _ _ e in absurd (omega (arith, h))
layer_tells (Literal-F.Union a k) t (Literal-F.Union b j) r s p q e =
    let h = both-tell HasSoundTypeParts HasSoundParts type_bytes literal_bytes k a (type_bytes-tells k) t j b r s p.0.parts p.1 q.0.parts q.1 (tails _ _ _ _ e) in
    (λ i. Literal-F.Union (h.1 i) (h.0 i), h.2)
layer_tells (Literal-F.Union a k) t w r s p q e = let h = heads _ _ _ _ e in absurd (omega (arith, h))
layer_tells (Literal-F.Map a) t (Literal-F.Map b) r s p q e =
    let h = all-tell (IsEntry HasSoundParts) (entry_of literal_bytes) a (entries-tell HasSoundParts literal_bytes a t) b r s
    (p.0.0, are_entries HasSoundParts a p.0.2 p.1) (q.0.0, are_entries HasSoundParts b q.0.2 q.1) (tails _ _ _ _ e) in
    (ap Literal-F.Map h.0, h.1)
layer_tells (Literal-F.Map a) t w r s p q e = let h = heads _ _ _ _ e in absurd (omega (arith, h))
layer_tells (Literal-F.Collection a) t (Literal-F.Collection b) r s p q e =
    let h = all-tell HasSoundParts literal_bytes a t b r s p q (tails _ _ _ _ e) in (ap Literal-F.Collection h.0, h.1)
layer_tells (Literal-F.Collection a) t w r s p q e = let h = heads _ _ _ _ e in absurd (omega (arith, h))

rolled_tells : (z : LiteralLayer) → LiteralsHeld LiteralTells z → LiteralTells (roll-Literal z)
rolled_tells z t b r s p q e =
    let back : roll-Literal (out-Literal b) ≡ b = roll-out-Literal b in
    let e' : literal_layer_bytes z ++ r ≡ literal_layer_bytes (out-Literal b) ++ s =
    ap (λ bs. bs ++ r) (sym (literal_bytes-roll z)) ∙ e ∙ ap (λ bs. bs ++ s) (ap literal_bytes (sym back) ∙ literal_bytes-roll (out-Literal b)) in
    let here : IsSoundLayer z = subst IsSoundLayer (out-roll-Literal z) (sound_layer (roll-Literal z) p) in
    let h = layer_tells z t (out-Literal b) r s here (sound_layer b q) e' in
    (ap roll-Literal h.0 ∙ back, h.1)

pub literal_bytes-tells : (l : Literal) → Tells HasSoundParts literal_bytes l
literal_bytes-tells = ind-Literal LiteralTells (λ x y is. subst (λ z. LiteralTells (roll-Literal z)) is (rolled_tells _ (held_from LiteralTells y)))
