-- A converted literal is of the target type.
use Rattle.std.proofs.Common.{◌≡◌, ℕ, zero, suc, ◌+◌, ◌≤◌, Bool, true, false, ◌&&◌, ◌||◌, if◌then◌else◌, List, [], ◌∷◌, map, filter, Result, Ok, Err, Option, Some, None, is_some, refl, sym, ◌∙◌, ap, subst, IfOk, arith, inl, inr}
use Rattle.std.specs.List.{All, list_all, AllByRecursion as Each}
use Rattle.std.proofs.lemmas.List.Elements.{recursion_from_All, All-from_recursion, All-contains}
use Rattle.fly_types.specs.declared.text.Text.{Text}
use Rattle.fly_types.specs.declared.kinds.Simple.TheVariants as simple
use Rattle.fly_types.specs.declared.kinds.LiteralType.{LiteralType, out-LiteralType}
use Rattle.fly_types.specs.declared.kinds.LiteralType.TheOpen.{LiteralType-F}
use Rattle.fly_types.specs.declared.literals.Literal.{Literal, out-Literal}
use Rattle.fly_types.specs.declared.literals.Literal.TheOpen.{Literal-F}
use Rattle.fly_types.specs.declared.literals.Literal.TheVariants as literal
use Rattle.fly_types.specs.declared.literals.Literal.TheViews as view
use Rattle.fly_types.specs.Layer.{TypeLayer, LiteralLayer}
use Rattle.fly_types.specs.Membership.{IsMember, IsCollectionOf, IsMapOf, IsUnionWhere, IsTextAmong, IsVariant, simple_type}
use Rattle.fly_types.specs.Same.{same_type}
use Rattle.fly_types.proofs.SameLemmas.{same_type-Decides}
use Rattle.fly_types.specs.Levels.{type_levels, largest}
use Rattle.fly_types.proofs.Member.{IsMemberAt, IsMember-out}
use Rattle.fly_cast.specs.Castable.{is_among, sole_element, is_enum_castable, is_castable_by_form, is_castable}
use Rattle.fly_cast.specs.declared.conversion.ConvertFault.{ConvertFault}
use Rattle.fly_cast.specs.Conversion.{IsAnswer, result_map, each_result, entry_result, conversion_of_value, conversion_into, conversion_of_elements, conversion_of_entries, conversion_of_text, conversion_of_plain, conversion_by_form, conversion_of}
use Rattle.fly_cast.proofs.Levels.{layer_levels, type_levels-out, type_levels-positive, variant-of, sole_element-levels}
use Rattle.fly_cast.proofs.Lists.{sole_element-has, sole_element-passes, some_each, result_ahead_of-ok}
use Rattle.fly_cast.proofs.Members.{is_among-Decides}
use Rattle.fly_cast.proofs.Casts.{is_castable-step}
use Rattle.fly_cast.proofs.Converts.{conversion_of-step, member-at}

-- ---- values of enums

-- ---- results

pub both-true : (a b : Bool) → (a && b) ≡ true → (a ≡ true) × (b ≡ true)
both-true true true e = (refl, refl)
both-true true false e = cc
both-true false b e = cc

list_all-each : {X : Type 0} (p : X → Bool) (xs : List X) → list_all p xs ≡ true → Each (λ x. p x ≡ true) xs
list_all-each p [] e = tt
list_all-each p (x ∷ xs) e = let parts = both-true (p x) (list_all p xs) e in (parts.0, list_all-each p xs parts.1)

pub map-ok : {X Y E : Type 0} (f : X → Y) (r : Result X E) (y : Y) → result_map f r ≡ Ok y → (x : X) × (r ≡ Ok x)
    × (y ≡ f x)
map-ok f (Ok x) y e = (x, refl, cc)
map-ok f (Err d) y e = cc

pub each-ok : {X Y E : Type 0} (P : X → Type 0) (Q : Y → Type 0) (f : X → Result Y E)
    → ((x : X) (y : Y) → P x → f x ≡ Ok y → Q y)
    → (xs : List X) (ys : List Y) → Each P xs → each_result f xs ≡ Ok ys → Each Q ys
each-ok P Q f step [] ys h e = let none : [] ≡ ys = cc in subst (Each Q) none tt
each-ok P Q f step (x ∷ xs) ys h e =
    let parts = result_ahead_of-ok (each_result f xs) (f x) ys e in
    subst (Each Q) (sym parts.4) (step x parts.0 h.0 parts.2, each-ok P Q f step xs parts.1 h.1 parts.3)

-- ---- the theorem, at types of so many levels in all

abbrev ReachesWithin : ℕ → Type 0
ReachesWithin n = (l r : Literal) (a b : LiteralType) → type_levels a + type_levels b ≤ n → IsMember a l
    → is_castable a b ≡ true → conversion_of l a b ≡ Ok r
    → IsMember b r

pub all-cast : (p : LiteralType → Bool) (ts : List LiteralType) (variant : LiteralType) (value : Literal)
    → list_all p ts ≡ true → IsVariant ts variant value
    → p variant ≡ true
all-cast p [] variant value e h = absurd h
all-cast p (t ∷ ts) variant value e (inl h) = ap p h.0 ∙ (both-true (p t) (list_all p ts) e).0
all-cast p (t ∷ ts) variant value e (inr h) = all-cast p ts variant value (both-true (p t) (list_all p ts) e).1 h

from_union : (n : ℕ) (l r : Literal) (b : LiteralType) (ts : List LiteralType) (m : LiteralLayer) → ReachesWithin n
    → largest (map type_levels ts) + type_levels b ≤ n → IsUnionWhere (λ variant value. IsVariant ts variant value) m
    → list_all (λ t. is_castable t b) ts ≡ true
    → conversion_of_value (λ value variant. conversion_of value variant b) l m ≡ Ok r → IsMember b r
from_union n l r b ts (Literal-F.Union value variant) reaches le h casts e =
    let of = variant-of ts variant value h in
    reaches value r variant b (omega (arith, of.0)) of.1 (all-cast (λ t. is_castable t b) ts variant value casts h) e
from_union n l r b ts _ reaches le h casts e = absurd h

into_union : (n : ℕ) (l r : Literal) (a : LiteralType) (ts : List LiteralType) (o : Option LiteralType)
    → ReachesWithin n
    → sole_element (filter (is_castable a) ts) ≡ o → type_levels a + largest (map type_levels ts) ≤ n → IsMember a l
    → is_some o ≡ true
    → conversion_into (conversion_of l a) l o ≡ Ok r
    → IsUnionWhere (λ variant value. IsVariant ts variant value) (out-Literal r)
into_union n l r a ts None reaches which le member some e = cc
into_union n l r a ts (Some t) reaches which le member some e =
    let parts = map-ok (λ value. literal.Union value t) (conversion_of l a t) r e in
    let low : type_levels t ≤ largest (map type_levels ts) = sole_element-levels (is_castable a) ts t which in
    let of : IsMember t parts.0 =
    reaches l parts.0 a t (omega arith) member (sole_element-passes (is_castable a) ts t which) parts.1 in
    let there : IsVariant ts t parts.0 =
    sole_element-has (λ s. (t ≡ s) × IsMember s parts.0 → IsVariant ts t parts.0) (is_castable a) ts t which
    (some_each (λ s. (t ≡ s) × IsMember s parts.0) ts) (refl, of) in
    let out : out-Literal r ≡ Literal-F.Union parts.0 t = ap out-Literal parts.2 ∙ view.outs-Union _ _ in
    subst (λ m. IsUnionWhere (λ variant value. IsVariant ts variant value) m) (sym out) there

elements-reach : (n : ℕ) (l r : Literal) (x y : LiteralType) (m : LiteralLayer) → ReachesWithin n
    → type_levels x + type_levels y ≤ n
    → IsCollectionOf (IsMember x) m → is_castable x y ≡ true → conversion_of_elements (λ e. conversion_of e x y) l m
    ≡ Ok r → IsCollectionOf (IsMember y) (out-Literal r)
elements-reach n l r x y (Literal-F.Collection elements) reaches le h casts e =
    let parts = map-ok literal.Collection (each_result (λ z. conversion_of z x y) elements) r e in
    let all : All (IsMember y) parts.0 = All-from_recursion (IsMember y) parts.0
    (each-ok (IsMember x) (IsMember y) (λ z. conversion_of z x y)
    (λ z w of is. reaches z w x y le of casts is) elements parts.0
    (recursion_from_All (IsMember x) elements h) parts.1) in
    let out : out-Literal r ≡ Literal-F.Collection parts.0 = ap out-Literal parts.2 ∙ view.outs-Collection _ in
    subst (λ m. IsCollectionOf (IsMember y) m) (sym out) all
elements-reach n l r x y _ reaches le h casts e = absurd h

entries-reach : (n : ℕ) (l r : Literal) (x y : LiteralType) (m : LiteralLayer) → ReachesWithin n
    → type_levels x + type_levels y ≤ n
    → IsMapOf (IsMember x) m → is_castable x y ≡ true → conversion_of_entries (λ e. conversion_of e x y) l m ≡ Ok r
    → IsMapOf (IsMember y) (out-Literal r)
entries-reach n l r x y (Literal-F.Map entries) reaches le h casts e =
    let parts = map-ok literal.Map (each_result (entry_result (λ z. conversion_of z x y)) entries) r e in
    let step : (z w : Text × Literal) → IsMember x z.1 → entry_result (λ v. conversion_of v x y) z ≡ Ok w
    → IsMember y w.1 =
    λ z w of is. let one = map-ok (λ v. (z.0, v)) (conversion_of z.1 x y) w is in
    subst (λ (u : Text × Literal). IsMember y u.1) (sym one.2) (reaches z.1 one.0 x y le of casts one.1) in
    let all : All (λ u. IsMember y u.1) parts.0 = All-from_recursion (λ u. IsMember y u.1) parts.0
    (each-ok (λ u. IsMember x u.1) (λ u. IsMember y u.1) (entry_result (λ z. conversion_of z x y)) step entries parts.0
    (recursion_from_All (λ u. IsMember x u.1) entries h) parts.1) in
    let out : out-Literal r ≡ Literal-F.Map parts.0 = ap out-Literal parts.2 ∙ view.outs-Map _ in
    subst (λ m. IsMapOf (IsMember y) m) (sym out) all
entries-reach n l r x y _ reaches le h casts e = absurd h

-- ---- literals without parts

enum-text : (values : List Text) (m : LiteralLayer) → IsTextAmong values m → simple_type m ≡ Some simple.Text
enum-text values (Literal-F.Text text) h = refl
enum-text values _ h = absurd h

enum-enum : (values others : List Text) (m : LiteralLayer) → list_all (is_among others) values ≡ true
    → IsTextAmong values m → IsTextAmong others m
enum-enum values others (Literal-F.Text text) e h =
    (is_among-Decides others text).0 (All-contains (λ v. is_among others v ≡ true) values text
    (All-from_recursion (λ v. is_among others v ≡ true) values (list_all-each (is_among others) values e)) h)
enum-enum values others _ e h = absurd h

checked-text : (values : List Text) (l r : Literal) (text : Text) (b : Bool) → out-Literal l ≡ Literal-F.Text text
    → is_among values text ≡ b
    → (if b then Ok l else Err text) ≡ Ok r → IsTextAmong values (out-Literal r)
checked-text values l r text true out e is =
    let same : l ≡ r = cc in
    subst (λ m. IsTextAmong values m) (sym out ∙ ap out-Literal same) ((is_among-Decides values text).0 e)
checked-text values l r text false out e is = cc

text-enum : (values : List Text) (l r : Literal) (m : LiteralLayer) → out-Literal l ≡ m → simple_type m
    ≡ Some simple.Text → conversion_of_text values l m ≡ Ok r
    → IsTextAmong values (out-Literal r)
text-enum values l r (Literal-F.Text text) out h e = checked-text values l r text (is_among values text) out refl e
text-enum values l r _ out h e = cc

plain-reaches : (l r : Literal) (p q : TypeLayer) → IsMemberAt p l → is_enum_castable p q ≡ true
    → conversion_of_plain l p q ≡ Ok r → IsMemberAt q r
plain-reaches l r (LiteralType-F.Enum values) (LiteralType-F.Simple simple.Text) at casts e =
    let same : l ≡ r = cc in
    ap (λ x. simple_type (out-Literal x)) (sym same) ∙ enum-text values (out-Literal l) at
plain-reaches l r (LiteralType-F.Simple simple.Text) (LiteralType-F.Enum values) at casts e =
    text-enum values l r (out-Literal l) refl at e
plain-reaches l r (LiteralType-F.Enum values) (LiteralType-F.Enum others) at casts e =
    let same : l ≡ r = cc in
    subst (λ x. IsTextAmong others (out-Literal x)) same (enum-enum values others (out-Literal l) casts at)
plain-reaches l r _ _ at casts e = cc

-- ---- all rules

back : (b : LiteralType) (q : TypeLayer) (r : Literal) → IsMember b ≡ IsMemberAt q → IsMemberAt q r → IsMember b r
back b q r e h = subst (λ (P : Literal → Type 0). P r) (sym e) h

form_reaches : (n : ℕ) (l r : Literal) (a b : LiteralType) (p q : TypeLayer) → ReachesWithin n → IsMember a l
    → IsMemberAt p l
    → IsMember b ≡ IsMemberAt q → type_levels a ≡ layer_levels p → type_levels b ≡ layer_levels q
    → layer_levels p + layer_levels q ≤ n + 1
    → is_castable_by_form is_castable a b p q ≡ true → conversion_by_form conversion_of l a b p q ≡ Ok r → IsMember b r
form_reaches n l r a b (LiteralType-F.Union ts) q reaches member at is pa qb le casts e =
    from_union n l r b ts (out-Literal l) reaches (omega arith) at casts e
form_reaches n l r a b (LiteralType-F.Simple s) (LiteralType-F.Union ts) reaches member at is pa qb le casts e =
    back b (LiteralType-F.Union ts) r is (into_union n l r a ts _ reaches refl (omega arith) member casts e)
form_reaches n l r a b (LiteralType-F.Collection x) (LiteralType-F.Union ts) reaches member at is pa qb le casts e =
    back b (LiteralType-F.Union ts) r is (into_union n l r a ts _ reaches refl (omega arith) member casts e)
form_reaches n l r a b (LiteralType-F.Map x) (LiteralType-F.Union ts) reaches member at is pa qb le casts e =
    back b (LiteralType-F.Union ts) r is (into_union n l r a ts _ reaches refl (omega arith) member casts e)
form_reaches n l r a b (LiteralType-F.Blob form) (LiteralType-F.Union ts) reaches member at is pa qb le casts e =
    back b (LiteralType-F.Union ts) r is (into_union n l r a ts _ reaches refl (omega arith) member casts e)
form_reaches n l r a b (LiteralType-F.Enum values) (LiteralType-F.Union ts) reaches member at is pa qb le casts e =
    back b (LiteralType-F.Union ts) r is (into_union n l r a ts _ reaches refl (omega arith) member casts e)
form_reaches n l r a b (LiteralType-F.Collection x) (LiteralType-F.Collection y) reaches member at is pa qb le casts e =
    back b (LiteralType-F.Collection y) r is (elements-reach n l r x y (out-Literal l) reaches (omega arith) at casts e)
form_reaches n l r a b (LiteralType-F.Map x) (LiteralType-F.Map y) reaches member at is pa qb le casts e =
    back b (LiteralType-F.Map y) r is (entries-reach n l r x y (out-Literal l) reaches (omega arith) at casts e)
form_reaches n l r a b p q reaches member at is pa qb le casts e = back b q r is (plain-reaches l r p q at casts e)

rule-reaches : (n : ℕ) (l r : Literal) (a b : LiteralType) (s : Bool) → ReachesWithin n → same_type a b ≡ s
    → type_levels a + type_levels b ≤ n + 1
    → IsMember a l → is_castable a b ≡ true → conversion_of l a b ≡ Ok r → IsMember b r
rule-reaches n l r a b true reaches same le member casts e =
    let one : a ≡ b = (same_type-Decides a b).0 same in
    let stays : conversion_of l a b ≡ Ok l = conversion_of-step l a b member
    ∙ ap (λ s. if s then Ok l else conversion_by_form conversion_of l a b (out-LiteralType a) (out-LiteralType b))
    same in
    let is : l ≡ r = cc in
    subst (λ x. IsMember b x) is (subst (λ t. IsMember t l) one member)
rule-reaches n l r a b false reaches same le member casts e =
    let cast : is_castable_by_form is_castable a b (out-LiteralType a) (out-LiteralType b) ≡ true =
    sym (is_castable-step a b
    ∙ ap (λ s. s || is_castable_by_form is_castable a b (out-LiteralType a) (out-LiteralType b)) same) ∙ casts in
    let conv : conversion_by_form conversion_of l a b (out-LiteralType a) (out-LiteralType b) ≡ Ok r =
    sym (conversion_of-step l a b member
    ∙ ap (λ s. if s then Ok l else conversion_by_form conversion_of l a b (out-LiteralType a) (out-LiteralType b))
    same) ∙ e in
    form_reaches n l r a b (out-LiteralType a) (out-LiteralType b) reaches member (member-at a l member)
    (IsMember-out b) (type_levels-out a) (type_levels-out b)
    (omega (arith, type_levels-out a, type_levels-out b)) cast conv

reaches : (n : ℕ) → ReachesWithin n
reaches zero l r a b le member casts e = absurd (omega (arith, type_levels-positive a))
reaches (suc n) l r a b le member casts e =
    rule-reaches n l r a b (same_type a b) (reaches n) refl (omega arith) member casts e

-- a literal of `a` that was converted to `b` is of `b`
pub conversion_of-member : (l r : Literal) (a b : LiteralType) → IsMember a l → is_castable a b ≡ true
    → conversion_of l a b ≡ Ok r → IsMember b r
conversion_of-member l r a b member casts e =
    reaches (type_levels a + type_levels b) l r a b (omega arith) member casts e

pub answers-member : (l : Literal) (a b : LiteralType) (r : Result Literal ConvertFault) → IsMember a l
    → is_castable a b ≡ true → IsAnswer (conversion_of l a b) r
    → IfOk r (IsMember b)
answers-member l a b (Ok c) member casts e = conversion_of-member l c a b member casts e
answers-member l a b (Err d) member casts e = tt
