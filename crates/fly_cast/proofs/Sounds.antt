-- What is converted or fitted stays sound.
use Rattle.std.proofs.Common.{◌≡◌, ℕ, zero, suc, ◌+◌, ◌≤◌, Bool, true, false, ◌||◌, if◌then◌else◌, List, [], ◌∷◌, map, length, filter, Result, Ok, Err, Option, Some, None, is_some, IfOk, refl, sym, ◌∙◌, ap, subst, arith}
use Rattle.std.specs.Option.{option_map, option_and_then}
use Rattle.std.specs.List.{list_all, AllByRecursion as Each}
use Rattle.std.proofs.lemmas.List.{length-map}
use Rattle.std.proofs.lemmas.List.Elements.{recursion_from_All, All-from_recursion}
use Rattle.std.specs.List.Sorted.{IsStrictlySortedBy}
use Rattle.std.specs.Ordering.{nat_cmp}
use Rattle.std.specs.Cmp.Lexicographic.{slice_cmp}
use Rattle.fly_types.specs.declared.text.Text.{Text}
use Rattle.fly_types.specs.declared.kinds.Simple.TheVariants as simple
use Rattle.fly_types.specs.declared.kinds.LiteralType.{LiteralType, out-LiteralType}
use Rattle.fly_types.specs.declared.kinds.LiteralType.TheOpen.{LiteralType-F}
use Rattle.fly_types.specs.declared.kinds.LiteralType.TheFolds.{map-LiteralType, every_held-LiteralType}
use Rattle.fly_types.specs.declared.literals.Literal.{Literal, out-Literal}
use Rattle.fly_types.specs.declared.literals.Literal.TheOpen.{Literal-F}
use Rattle.fly_types.specs.declared.literals.Literal.TheVariants as literal
use Rattle.fly_types.specs.declared.literals.Literal.TheViews as view
use Rattle.fly_types.specs.declared.literals.Literal.TheFolds.{map-Literal, every_held-Literal, every_here-Literal, every_made-Literal}
use Rattle.fly_types.specs.Layer.{TypeLayer, LiteralLayer}
use Rattle.fly_types.specs.Levels.{type_levels, literal_levels, largest, max_levels}
use Rattle.fly_types.specs.Membership.{IsMember, IsCollectionOf, IsMapOf, IsUnionWhere, IsVariant}
use Rattle.fly_types.specs.Same.{same_type}
use Rattle.fly_types.specs.Sound.{IsShort, AreEntriesSound, IsTypeLayerSound, HasSoundTypeParts, IsSoundType, IsLiteralLayerSound, HasSoundParts, IsSound}
use Rattle.fly_types.proofs.LiteralTells.{LiteralsHeld}
use Rattle.fly_types.proofs.TypeTells.{TypesHeld}
use Rattle.fly_types.proofs.Member.{IsMemberAt}
use Rattle.fly_cast.specs.declared.conversion.ConvertFault.{ConvertFault}
use Rattle.fly_cast.specs.declared.fitting.FitFault.{FitFault}
use Rattle.fly_cast.specs.Castable.{is_among, sole_element, is_castable_by_form, is_castable}
use Rattle.fly_cast.specs.Conversion.{IsAnswer, each_result, entry_result, conversion_of_value, conversion_into, conversion_of_elements, conversion_of_entries, conversion_of_text, conversion_of_plain, conversion_by_form, conversion_of}
use Rattle.fly_cast.specs.Fitting.{is_of, IsFitted, each_value, entry_value, fitting_of_elements, fitting_of_entries, fitting_into_union, fitting_by_form, fitting_of}
use Rattle.fly_cast.specs.Target.{IsTarget}
use Rattle.fly_cast.proofs.Levels.{layer_levels, type_levels-out, type_levels-positive, variant-of, sole_element-levels}
use Rattle.fly_cast.proofs.Lists.{sole_element-has, sole_element-passes, result_ahead_of-ok}
use Rattle.fly_cast.proofs.Options.{ahead-some, map-some}
use Rattle.fly_cast.proofs.Casts.{is_castable-step}
use Rattle.fly_cast.proofs.Converts.{conversion_of-step, member-at}
use Rattle.fly_cast.proofs.Targets.{all-cast, map-ok, conversion_of-member}
use Rattle.fly_cast.proofs.Fits.{fitting_of-step, fitted-member}
use Rattle.fly_cast.proofs.Depths.{member-levels}

-- ---- the parts of a sound literal and of a sound type

held : (P : Literal → Type 0) (y : Literal-F ((l : Literal) × P l))
    → LiteralsHeld P (map-Literal ((l : Literal) × P l) Literal (λ e. e.0) y)
held P (Literal-F.Union e variant) = e.1
held P (Literal-F.Collection es) = list es
  where
    list : (es : List ((l : Literal) × P l)) → Each P (map (λ e. e.0) es)
    list [] = tt
    list (e ∷ es) = (e.1, list es)
held P (Literal-F.Map es) = list es
  where
    list : (es : List (Text × ((l : Literal) × P l)))
        → Each (λ (e : Text × Literal). P e.1) (map (λ e. (e.0, e.1.0)) es)
    list [] = tt
    list (e ∷ es) = (e.1.1, list es)
held P _ = tt

parts-held : (l : Literal) → HasSoundParts l → LiteralsHeld HasSoundParts (out-Literal l)
parts-held l p = let h = every_held-Literal IsLiteralLayerSound l p in
    subst (LiteralsHeld HasSoundParts) h.1 (held HasSoundParts h.0)

types-from : (P : LiteralType → Type 0) (y : LiteralType-F ((t : LiteralType) × P t))
    → TypesHeld P (map-LiteralType ((t : LiteralType) × P t) LiteralType (λ e. e.0) y)
types-from P (LiteralType-F.Collection e) = e.1
types-from P (LiteralType-F.Map e) = e.1
types-from P (LiteralType-F.Union es) = list es
  where
    list : (es : List ((t : LiteralType) × P t)) → Each P (map (λ e. e.0) es)
    list [] = tt
    list (e ∷ es) = (e.1, list es)
types-from P _ = tt

types-held : (t : LiteralType) → HasSoundTypeParts t → TypesHeld HasSoundTypeParts (out-LiteralType t)
types-held t p = let h = every_held-LiteralType IsTypeLayerSound t p in
    subst (TypesHeld HasSoundTypeParts) h.1 (types-from HasSoundTypeParts h.0)

-- ---- sound parts make a sound whole

with : {X : Type 0} (P : X → Type 0) (xs : List X) → Each P xs → (ys : List ((x : X) × P x)) × (map (λ y. y.0) ys ≡ xs)
with P [] h = ([], refl)
with P (x ∷ xs) h = let rest = with P xs h.1 in ((x, h.0) ∷ rest.0, ap (λ ys. x ∷ ys) rest.1)

with_names : (P : Literal → Type 0) (xs : List (Text × Literal)) → Each (λ (x : Text × Literal). P x.1) xs
    → (ys : List (Text × ((l : Literal) × P l))) × (map (λ y. (y.0, y.1.0)) ys ≡ xs)
with_names P [] h = ([], refl)
with_names P (x ∷ xs) h = let rest = with_names P xs h.1 in ((x.0, (x.1, h.0)) ∷ rest.0, ap (λ ys. x ∷ ys) rest.1)

sound-union : (value : Literal) (variant : LiteralType) → HasSoundParts value → IsSoundType variant
    → HasSoundParts (literal.Union value variant)
sound-union value variant p s =
    subst HasSoundParts (view.rolls-Union value variant)
    (every_made-Literal IsLiteralLayerSound (Literal-F.Union value variant) (Literal-F.Union (value, p) variant) refl s)

sound-collection : (xs : List Literal) → Each HasSoundParts xs → IsShort xs → HasSoundParts (literal.Collection xs)
sound-collection xs h s =
    let ys = with HasSoundParts xs h in
    subst HasSoundParts (view.rolls-Collection xs)
    (every_made-Literal IsLiteralLayerSound (Literal-F.Collection xs) (Literal-F.Collection ys.0)
    (ap Literal-F.Collection ys.1) s)

sound-map : (xs : List (Text × Literal)) → Each (λ (x : Text × Literal). HasSoundParts x.1) xs → AreEntriesSound xs
    → HasSoundParts (literal.Map xs)
sound-map xs h s =
    let ys = with_names HasSoundParts xs h in
    subst HasSoundParts (view.rolls-Map xs)
    (every_made-Literal IsLiteralLayerSound (Literal-F.Map xs) (Literal-F.Map ys.0) (ap Literal-F.Map ys.1) s)

-- entries under the same names as sound ones

named : (P : Text → Type 0) (es : List (Text × Literal)) → Each (λ e. P e.0) es → Each P (map (λ e. e.0) es)
named P [] h = tt
named P (e ∷ es) h = (h.0, named P es h.1)

unnamed : (P : Text → Type 0) (es : List (Text × Literal)) → Each P (map (λ e. e.0) es) → Each (λ e. P e.0) es
unnamed P [] h = tt
unnamed P (e ∷ es) h = (h.0, unnamed P es h.1)

same-names : (es ds : List (Text × Literal)) → map (λ d. d.0) ds ≡ map (λ e. e.0) es → AreEntriesSound es
    → AreEntriesSound ds
same-names es ds e h =
    let long : length ds ≡ length es = sym (length-map ds (λ d. d.0)) ∙ ap length e ∙ length-map es (λ d. d.0) in
    let short : Each IsShort (map (λ d. d.0) ds) =
    subst (Each IsShort) (sym e) (named IsShort es (recursion_from_All (λ d. IsShort d.0) es h.2)) in (
      omega (arith, long, h.0),
      subst (λ (ns : List Text). IsStrictlySortedBy (slice_cmp nat_cmp) ns)
          (sym e) h.1,
      All-from_recursion (λ d. IsShort d.0) ds (unnamed IsShort ds short),
    )

-- ---- conversion

each_result-length : {X Y E : Type 0} (f : X → Result Y E) (xs : List X) (ys : List Y) → each_result f xs ≡ Ok ys
    → length ys ≡ length xs
each_result-length f [] ys e = let none : [] ≡ ys = cc in ap length (sym none)
each_result-length f (x ∷ xs) ys e =
    let parts = result_ahead_of-ok (each_result f xs) (f x) ys e in
    let rest : length parts.1 ≡ length xs = each_result-length f xs parts.1 parts.3 in
    ap length parts.4 ∙ ap suc rest

each_result-names : (f : Literal → Result Literal Text) (es ds : List (Text × Literal))
    → each_result (entry_result f) es ≡ Ok ds → map (λ d. d.0) ds ≡ map (λ e. e.0) es
each_result-names f [] ds e = let none : [] ≡ ds = cc in ap (map (λ d. d.0)) (sym none)
each_result-names f (x ∷ xs) ds e =
    let parts = result_ahead_of-ok (each_result (entry_result f) xs) (entry_result f x) ds e in
    let one = map-ok (λ v. (x.0, v)) (f x.1) parts.0 parts.2 in
    ap (map (λ d. d.0)) parts.4 ∙ (λ i. (one.2 i).0 ∷ each_result-names f xs parts.1 parts.3 i)

each-two : {X Y E : Type 0} (P R : X → Type 0) (Q : Y → Type 0) (f : X → Result Y E)
    → ((x : X) (y : Y) → P x → R x → f x ≡ Ok y → Q y)
    → (xs : List X) (ys : List Y) → Each P xs → Each R xs → each_result f xs ≡ Ok ys → Each Q ys
each-two P R Q f step [] ys h g e = let none : [] ≡ ys = cc in subst (Each Q) none tt
each-two P R Q f step (x ∷ xs) ys h g e =
    let parts = result_ahead_of-ok (each_result f xs) (f x) ys e in
    subst (Each Q) (sym parts.4) (step x parts.0 h.0 g.0 parts.2, each-two P R Q f step xs parts.1 h.1 g.1 parts.3)

abbrev ConvertsWithin : ℕ → Type 0
ConvertsWithin n = (l r : Literal) (a b : LiteralType) → type_levels a + type_levels b ≤ n → IsMember a l
    → is_castable a b ≡ true → conversion_of l a b ≡ Ok r
    → HasSoundParts l → HasSoundTypeParts b → type_levels b ≤ max_levels + 1 → HasSoundParts r

value-sound : (n : ℕ) (l r : Literal) (b : LiteralType) (ts : List LiteralType) (m : LiteralLayer) → ConvertsWithin n
    → largest (map type_levels ts) + type_levels b ≤ n → IsUnionWhere (λ variant value. IsVariant ts variant value) m
    → list_all (λ t. is_castable t b) ts ≡ true
    → conversion_of_value (λ value variant. conversion_of value variant b) l m ≡ Ok r
    → LiteralsHeld HasSoundParts m → HasSoundTypeParts b → type_levels b ≤ max_levels + 1 → HasSoundParts r
value-sound n l r b ts (Literal-F.Union value variant) sounds le h casts e sound tb lb =
    let of = variant-of ts variant value h in
    sounds value r variant b (omega (arith, of.0)) of.1
    (all-cast (λ t. is_castable t b) ts variant value casts h) e sound tb lb
value-sound n l r b ts _ sounds le h casts e sound tb lb = absurd h

into-sound : (n : ℕ) (l r : Literal) (a : LiteralType) (ts : List LiteralType) (o : Option LiteralType)
    → ConvertsWithin n
    → sole_element (filter (is_castable a) ts) ≡ o → type_levels a + largest (map type_levels ts) ≤ n → IsMember a l
    → is_some o ≡ true
    → conversion_into (conversion_of l a) l o ≡ Ok r → HasSoundParts l → Each HasSoundTypeParts ts
    → largest (map type_levels ts) ≤ max_levels → HasSoundParts r
into-sound n l r a ts None sounds which le member some e sound types low = cc
into-sound n l r a ts (Some t) sounds which le member some e sound types low =
    let parts = map-ok (λ value. literal.Union value t) (conversion_of l a t) r e in
    let lt : type_levels t ≤ largest (map type_levels ts) = sole_element-levels (is_castable a) ts t which in
    let tt' : HasSoundTypeParts t = sole_element-has HasSoundTypeParts (is_castable a) ts t which types in
    let value : HasSoundParts parts.0 =
    sounds l parts.0 a t (omega arith) member (sole_element-passes (is_castable a) ts t which) parts.1 sound tt'
    (omega arith) in
    let variant : IsSoundType t = record { parts = tt'; levels = omega arith } in
    subst HasSoundParts (sym parts.2) (sound-union parts.0 t value variant)

elements-sound : (n : ℕ) (l r : Literal) (x y : LiteralType) (m : LiteralLayer) → ConvertsWithin n
    → type_levels x + type_levels y ≤ n
    → IsCollectionOf (IsMember x) m → is_castable x y ≡ true → conversion_of_elements (λ e. conversion_of e x y) l m
    ≡ Ok r
    → IsLiteralLayerSound m → LiteralsHeld HasSoundParts m → HasSoundTypeParts y → type_levels y ≤ max_levels + 1
    → HasSoundParts r
elements-sound n l r x y (Literal-F.Collection elements) sounds le h casts e here sound ty ly =
    let parts = map-ok literal.Collection (each_result (λ z. conversion_of z x y) elements) r e in
    let each : Each HasSoundParts parts.0 =
    each-two (IsMember x) HasSoundParts HasSoundParts (λ z. conversion_of z x y)
    (λ z w of s is. sounds z w x y le of casts is s ty ly) elements parts.0
    (recursion_from_All (IsMember x) elements h) sound parts.1 in
    subst HasSoundParts (sym parts.2)
    (sound-collection parts.0 each
    (omega (arith, here, each_result-length (λ z. conversion_of z x y) elements parts.0 parts.1)))
elements-sound n l r x y _ sounds le h casts e here sound ty ly = absurd h

entries-sound : (n : ℕ) (l r : Literal) (x y : LiteralType) (m : LiteralLayer) → ConvertsWithin n
    → type_levels x + type_levels y ≤ n
    → IsMapOf (IsMember x) m → is_castable x y ≡ true → conversion_of_entries (λ e. conversion_of e x y) l m ≡ Ok r
    → IsLiteralLayerSound m → LiteralsHeld HasSoundParts m → HasSoundTypeParts y → type_levels y ≤ max_levels + 1
    → HasSoundParts r
entries-sound n l r x y (Literal-F.Map entries) sounds le h casts e here sound ty ly =
    let parts = map-ok literal.Map (each_result (entry_result (λ z. conversion_of z x y)) entries) r e in
    let step : (z w : Text × Literal) → IsMember x z.1 → HasSoundParts z.1
    → entry_result (λ v. conversion_of v x y) z ≡ Ok w → HasSoundParts w.1 =
    λ z w of s is. let one = map-ok (λ v. (z.0, v)) (conversion_of z.1 x y) w is in
    subst (λ (u : Text × Literal). HasSoundParts u.1) (sym one.2) (sounds z.1 one.0 x y le of casts one.1 s ty ly) in
    let each : Each (λ (u : Text × Literal). HasSoundParts u.1) parts.0 =
    each-two (λ u. IsMember x u.1) (λ u. HasSoundParts u.1) (λ u. HasSoundParts u.1)
    (entry_result (λ z. conversion_of z x y)) step entries parts.0
    (recursion_from_All (λ u. IsMember x u.1) entries h) sound parts.1 in
    subst HasSoundParts (sym parts.2)
    (sound-map parts.0 each
    (same-names entries parts.0 (each_result-names (λ z. conversion_of z x y) entries parts.0 parts.1) here))
entries-sound n l r x y _ sounds le h casts e here sound ty ly = absurd h

if-same : (b : Bool) (l r : Literal) (text : Text) → (if b then Ok l else Err text) ≡ Ok r → l ≡ r
if-same true l r text e = cc
if-same false l r text e = cc

text-same : (values : List Text) (l r : Literal) (m : LiteralLayer) → conversion_of_text values l m ≡ Ok r → l ≡ r
text-same values l r (Literal-F.Text text) e = if-same (is_among values text) l r text e
text-same values l r _ e = cc

plain-same : (l r : Literal) (p q : TypeLayer) → conversion_of_plain l p q ≡ Ok r → l ≡ r
plain-same l r (LiteralType-F.Simple simple.Text) (LiteralType-F.Enum values) e = text-same values l r (out-Literal l) e
plain-same l r _ _ e = cc

form-sound : (n : ℕ) (l r : Literal) (a b : LiteralType) (p q : TypeLayer) → ConvertsWithin n → IsMember a l
    → IsMemberAt p l
    → type_levels a ≡ layer_levels p → type_levels b ≡ layer_levels q → layer_levels p + layer_levels q ≤ n + 1
    → is_castable_by_form is_castable a b p q ≡ true → conversion_by_form conversion_of l a b p q ≡ Ok r
    → HasSoundParts l → HasSoundTypeParts b → TypesHeld HasSoundTypeParts q → type_levels b ≤ max_levels + 1
    → HasSoundParts r
form-sound n l r a b (LiteralType-F.Union ts) q sounds member at pa qb le casts e sound tb held lb =
    value-sound n l r b ts (out-Literal l) sounds (omega arith) at casts e (parts-held l sound) tb lb
form-sound n l r a b (LiteralType-F.Simple s)
    (LiteralType-F.Union ts) sounds member at pa qb le casts e sound tb held lb =
    into-sound n l r a ts _ sounds refl (omega arith) member casts e sound held (omega arith)
form-sound n l r a b (LiteralType-F.Collection x)
    (LiteralType-F.Union ts) sounds member at pa qb le casts e sound tb held lb =
    into-sound n l r a ts _ sounds refl (omega arith) member casts e sound held (omega arith)
form-sound n l r a b (LiteralType-F.Map x) (LiteralType-F.Union ts) sounds member at pa qb le casts e sound tb held lb =
    into-sound n l r a ts _ sounds refl (omega arith) member casts e sound held (omega arith)
form-sound n l r a b (LiteralType-F.Blob form)
    (LiteralType-F.Union ts) sounds member at pa qb le casts e sound tb held lb =
    into-sound n l r a ts _ sounds refl (omega arith) member casts e sound held (omega arith)
form-sound n l r a b (LiteralType-F.Enum values)
    (LiteralType-F.Union ts) sounds member at pa qb le casts e sound tb held lb =
    into-sound n l r a ts _ sounds refl (omega arith) member casts e sound held (omega arith)
form-sound n l r a b (LiteralType-F.Collection x)
    (LiteralType-F.Collection y) sounds member at pa qb le casts e sound tb held lb =
    elements-sound n l r x y (out-Literal l) sounds (omega arith) at casts e
    (every_here-Literal IsLiteralLayerSound l sound) (parts-held l sound) held (omega arith)
form-sound n l r a b (LiteralType-F.Map x) (LiteralType-F.Map y) sounds member at pa qb le casts e sound tb held lb =
    entries-sound n l r x y (out-Literal l) sounds (omega arith) at casts e
    (every_here-Literal IsLiteralLayerSound l sound) (parts-held l sound) held (omega arith)
form-sound n l r a b p q sounds member at pa qb le casts e sound tb held lb =
    subst HasSoundParts (plain-same l r p q e) sound

rule-sound : (n : ℕ) (l r : Literal) (a b : LiteralType) (s : Bool) → ConvertsWithin n → same_type a b ≡ s
    → type_levels a + type_levels b ≤ n + 1
    → IsMember a l → is_castable a b ≡ true → conversion_of l a b ≡ Ok r → HasSoundParts l → HasSoundTypeParts b
    → type_levels b ≤ max_levels + 1 → HasSoundParts r
rule-sound n l r a b true sounds same le member casts e sound tb lb =
    let stays : conversion_of l a b ≡ Ok l = conversion_of-step l a b member
    ∙ ap (λ s. if s then Ok l else conversion_by_form conversion_of l a b (out-LiteralType a) (out-LiteralType b))
    same in
    let is : l ≡ r = cc in
    subst HasSoundParts is sound
rule-sound n l r a b false sounds same le member casts e sound tb lb =
    let cast : is_castable_by_form is_castable a b (out-LiteralType a) (out-LiteralType b) ≡ true =
    sym (is_castable-step a b
    ∙ ap (λ s. s || is_castable_by_form is_castable a b (out-LiteralType a) (out-LiteralType b)) same) ∙ casts in
    let conv : conversion_by_form conversion_of l a b (out-LiteralType a) (out-LiteralType b) ≡ Ok r =
    sym (conversion_of-step l a b member
    ∙ ap (λ s. if s then Ok l else conversion_by_form conversion_of l a b (out-LiteralType a) (out-LiteralType b))
    same) ∙ e in
    form-sound n l r a b (out-LiteralType a) (out-LiteralType b) sounds member (member-at a l member)
    (type_levels-out a) (type_levels-out b)
    (omega (arith, type_levels-out a, type_levels-out b)) cast conv sound tb (types-held b tb) lb

converts-sound : (n : ℕ) → ConvertsWithin n
converts-sound zero l r a b le member casts e sound tb lb = absurd (omega (arith, type_levels-positive a))
converts-sound (suc n) l r a b le member casts e sound tb lb =
    rule-sound n l r a b (same_type a b) (converts-sound n) refl (omega arith) member casts e sound tb lb

pub conversion_of-sound : (l r : Literal) (a b : LiteralType) → IsMember a l → is_castable a b ≡ true
    → conversion_of l a b ≡ Ok r → IsSound l → IsTarget b → IsSound r
conversion_of-sound l r a b member casts e sound target =
    let levels : literal_levels r + 1 ≤ type_levels b =
    member-levels r b (conversion_of-member l r a b member casts e) in record {
      parts = converts-sound (type_levels a + type_levels b) l r a b
          (omega arith) member casts e sound.parts target.parts target.levels;
      levels = let low = target.levels in omega arith;
    }

pub answers-sound : (l : Literal) (a b : LiteralType) (r : Result Literal ConvertFault) → IsMember a l
    → is_castable a b ≡ true → IsAnswer (conversion_of l a b) r
    → IsSound l → IsTarget b → IfOk r IsSound
answers-sound l a b (Ok c) member casts e sound target = conversion_of-sound l c a b member casts e sound target
answers-sound l a b (Err d) member casts e sound target = tt

-- ---- fitting

each_value-length : {X Y : Type 0} (f : X → Option Y) (xs : List X) (ys : List Y) → each_value f xs ≡ Some ys
    → length ys ≡ length xs
each_value-length f [] ys e = let none : [] ≡ ys = cc in ap length (sym none)
each_value-length f (x ∷ xs) ys e =
    let parts = ahead-some (each_value f xs) (f x) ys e in
    ap length parts.4 ∙ ap suc (each_value-length f xs parts.1 parts.3)

each_value-names : (f : Literal → Option Literal) (es ds : List (Text × Literal)) → each_value (entry_value f) es
    ≡ Some ds → map (λ d. d.0) ds ≡ map (λ e. e.0) es
each_value-names f [] ds e = let none : [] ≡ ds = cc in ap (map (λ d. d.0)) (sym none)
each_value-names f (x ∷ xs) ds e =
    let parts = ahead-some (each_value (entry_value f) xs) (entry_value f x) ds e in
    let one = map-some (λ v. (x.0, v)) (f x.1) parts.0 parts.2 in
    ap (map (λ d. d.0)) parts.4 ∙ (λ i. (one.2 i).0 ∷ each_value-names f xs parts.1 parts.3 i)

each-fits : {X Y : Type 0} (R : X → Type 0) (Q : Y → Type 0) (f : X → Option Y)
    → ((x : X) (y : Y) → R x → f x ≡ Some y → Q y)
    → (xs : List X) (ys : List Y) → Each R xs → each_value f xs ≡ Some ys → Each Q ys
each-fits R Q f step [] ys g e = let none : [] ≡ ys = cc in subst (Each Q) none tt
each-fits R Q f step (x ∷ xs) ys g e =
    let parts = ahead-some (each_value f xs) (f x) ys e in
    subst (Each Q) (sym parts.4) (step x parts.0 g.0 parts.2, each-fits R Q f step xs parts.1 g.1 parts.3)

abbrev FitsWithin : ℕ → Type 0
FitsWithin n = (l r : Literal) (t : LiteralType) → type_levels t ≤ n → fitting_of l t ≡ Some r → HasSoundParts l
    → HasSoundTypeParts t
    → type_levels t ≤ max_levels + 1 → HasSoundParts r

variant-sound : (n : ℕ) (l r : Literal) (ts : List LiteralType) (o : Option LiteralType) → FitsWithin n
    → largest (map type_levels ts) ≤ n
    → sole_element (filter (λ t. is_some (fitting_of l t)) ts) ≡ o
    → option_and_then (λ t. option_map (λ value. literal.Union value t) (fitting_of l t)) o ≡ Some r
    → HasSoundParts l → Each HasSoundTypeParts ts → largest (map type_levels ts) ≤ max_levels → HasSoundParts r
variant-sound n l r ts None sounds le which e sound types low = cc
variant-sound n l r ts (Some t) sounds le which e sound types low =
    let parts = map-some (λ value. literal.Union value t) (fitting_of l t) r e in
    let lt : type_levels t ≤ largest (map type_levels ts) =
    sole_element-levels (λ t. is_some (fitting_of l t)) ts t which in
    let tt' : HasSoundTypeParts t =
    sole_element-has HasSoundTypeParts (λ t. is_some (fitting_of l t)) ts t which types in
    let value : HasSoundParts parts.0 = sounds l parts.0 t (omega arith) parts.1 sound tt' (omega arith) in
    let variant : IsSoundType t = record { parts = tt'; levels = omega arith } in
    subst HasSoundParts (sym parts.2) (sound-union parts.0 t value variant)

union-sound : (n : ℕ) (l r : Literal) (ts : List LiteralType) (m : LiteralLayer) → FitsWithin n
    → largest (map type_levels ts) ≤ n
    → fitting_into_union (fitting_of l) ts m ≡ Some r → HasSoundParts l → Each HasSoundTypeParts ts
    → largest (map type_levels ts) ≤ max_levels → HasSoundParts r
union-sound n l r ts (Literal-F.Union value variant) sounds le e sound types low = cc
union-sound n l r ts _ sounds le e sound types low = variant-sound n l r ts _ sounds le refl e sound types low

elements-fit-sound : (n : ℕ) (r : Literal) (x : LiteralType) (m : LiteralLayer) → FitsWithin n → type_levels x ≤ n
    → fitting_of_elements (λ e. fitting_of e x) m ≡ Some r → IsLiteralLayerSound m → LiteralsHeld HasSoundParts m
    → HasSoundTypeParts x → type_levels x ≤ max_levels + 1
    → HasSoundParts r
elements-fit-sound n r x (Literal-F.Collection elements) sounds le e here sound tx lx =
    let parts = map-some literal.Collection (each_value (λ z. fitting_of z x) elements) r e in
    let each : Each HasSoundParts parts.0 =
    each-fits HasSoundParts HasSoundParts (λ z. fitting_of z x)
    (λ z w s is. sounds z w x le is s tx lx) elements parts.0 sound parts.1 in
    subst HasSoundParts (sym parts.2)
    (sound-collection parts.0 each
    (omega (arith, here, each_value-length (λ z. fitting_of z x) elements parts.0 parts.1)))
elements-fit-sound n r x _ sounds le e here sound tx lx = cc

entries-fit-sound : (n : ℕ) (r : Literal) (x : LiteralType) (m : LiteralLayer) → FitsWithin n → type_levels x ≤ n
    → fitting_of_entries (λ e. fitting_of e x) m ≡ Some r → IsLiteralLayerSound m → LiteralsHeld HasSoundParts m
    → HasSoundTypeParts x → type_levels x ≤ max_levels + 1
    → HasSoundParts r
entries-fit-sound n r x (Literal-F.Map entries) sounds le e here sound tx lx =
    let parts = map-some literal.Map (each_value (entry_value (λ z. fitting_of z x)) entries) r e in
    let step : (z w : Text × Literal) → HasSoundParts z.1 → entry_value (λ v. fitting_of v x) z ≡ Some w
    → HasSoundParts w.1 =
    λ z w s is. let one = map-some (λ v. (z.0, v)) (fitting_of z.1 x) w is in
    subst (λ (u : Text × Literal). HasSoundParts u.1) (sym one.2) (sounds z.1 one.0 x le one.1 s tx lx) in
    let each : Each (λ (u : Text × Literal). HasSoundParts u.1) parts.0 =
    each-fits (λ u. HasSoundParts u.1) (λ u. HasSoundParts u.1)
    (entry_value (λ z. fitting_of z x)) step entries parts.0 sound parts.1 in
    subst HasSoundParts (sym parts.2)
    (sound-map parts.0 each
    (same-names entries parts.0 (each_value-names (λ z. fitting_of z x) entries parts.0 parts.1) here))
entries-fit-sound n r x _ sounds le e here sound tx lx = cc

form-fit-sound : (n : ℕ) (l r : Literal) (q : TypeLayer) → FitsWithin n → layer_levels q ≤ n + 1
    → fitting_by_form fitting_of l q ≡ Some r
    → HasSoundParts l → TypesHeld HasSoundTypeParts q → layer_levels q ≤ max_levels + 1 → HasSoundParts r
form-fit-sound n l r (LiteralType-F.Union ts) sounds le e sound held low =
    union-sound n l r ts (out-Literal l) sounds (omega arith) e sound held (omega arith)
form-fit-sound n l r (LiteralType-F.Collection x) sounds le e sound held low =
    elements-fit-sound n r x (out-Literal l) sounds (omega arith) e (every_here-Literal IsLiteralLayerSound l sound)
    (parts-held l sound) held (omega arith)
form-fit-sound n l r (LiteralType-F.Map x) sounds le e sound held low =
    entries-fit-sound n r x (out-Literal l) sounds (omega arith) e (every_here-Literal IsLiteralLayerSound l sound)
    (parts-held l sound) held (omega arith)
form-fit-sound n l r _ sounds le e sound held low = cc

rule-fit-sound : (n : ℕ) (l r : Literal) (t : LiteralType) (b : Bool) → FitsWithin n → is_of t l ≡ b
    → type_levels t ≤ n + 1 → fitting_of l t ≡ Some r
    → HasSoundParts l → HasSoundTypeParts t → type_levels t ≤ max_levels + 1 → HasSoundParts r
rule-fit-sound n l r t true sounds test le e sound tp low =
    let stays : fitting_of l t ≡ Some l =
    fitting_of-step l t ∙ ap (λ b. if b then Some l else fitting_by_form fitting_of l (out-LiteralType t)) test in
    let is : l ≡ r = cc in
    subst HasSoundParts is sound
rule-fit-sound n l r t false sounds test le e sound tp low =
    let form : fitting_by_form fitting_of l (out-LiteralType t) ≡ Some r =
    sym (fitting_of-step l t ∙ ap (λ b. if b then Some l else fitting_by_form fitting_of l (out-LiteralType t)) test)
    ∙ e in
    form-fit-sound n l r (out-LiteralType t) sounds (omega (arith, type_levels-out t)) form sound (types-held t tp)
    (omega (arith, type_levels-out t))

fitting_of-sound : (n : ℕ) → FitsWithin n
fitting_of-sound zero l r t le e sound tp low = absurd (omega (arith, type_levels-positive t))
fitting_of-sound (suc n) l r t le e sound tp low =
    rule-fit-sound n l r t (is_of t l) (fitting_of-sound n) refl (omega arith) e sound tp low

pub fitted-sound : (l r : Literal) (t : LiteralType) → fitting_of l t ≡ Some r → IsSound l → IsTarget t → IsSound r
fitted-sound l r t e sound target =
    let levels : literal_levels r + 1 ≤ type_levels t = member-levels r t (fitted-member l r t e) in record {
      parts = fitting_of-sound (type_levels t) l r t (omega arith) e sound.parts target.parts target.levels;
      levels = let low = target.levels in omega arith;
    }

pub answers-fit-sound : (l : Literal) (t : LiteralType) (r : Result Literal FitFault) → IsFitted (fitting_of l t) r
    → IsSound l → IsTarget t → IfOk r IsSound
answers-fit-sound l t (Ok v) e sound target = fitted-sound l v t e sound target
answers-fit-sound l t (Err d) e sound target = tt
