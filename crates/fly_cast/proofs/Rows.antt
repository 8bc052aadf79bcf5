-- Worked rows of castability, conversion and fitting, on the definitions.
use Rattle.std.proofs.Common.{◌≡◌, Bool, true, false, cond, ◌&&◌, ◌||◌, if◌then◌else◌, [], ◌∷◌, Ok, Err, Some, None, is_some, option_map, option_and_then, Option, codes, refl, sym, ◌∙◌, ap, subst}
use Rattle.std.specs.List.{Contains}
use Rattle.std.proofs.lemmas.List.Elements.{All-nil}
use Rattle.fly_types.specs.declared.text.Text.{Text}
use Rattle.fly_types.specs.declared.kinds.Simple.TheVariants as simple
use Rattle.fly_types.specs.declared.kinds.LiteralType.{LiteralType, out-LiteralType}
use Rattle.fly_types.specs.declared.kinds.LiteralType.TheOpen.{LiteralType-F}
use Rattle.fly_types.specs.declared.kinds.LiteralType.TheVariants as type
use Rattle.fly_types.specs.declared.kinds.LiteralType.TheViews as type_view
use Rattle.fly_types.specs.declared.literals.Literal.{Literal, out-Literal}
use Rattle.fly_types.specs.declared.literals.Literal.TheOpen.{Literal-F}
use Rattle.fly_types.specs.declared.literals.Literal.TheVariants as literal
use Rattle.fly_types.specs.declared.literals.Literal.TheViews as view
use Rattle.fly_types.specs.Layer.{TypeLayer, LiteralLayer}
use Rattle.fly_types.specs.Membership.{IsMember, IsCollectionOf, IsTextAmong, IsUnionWhere, IsVariant, simple_type}
use Rattle.fly_types.specs.Same.{same_type}
use Rattle.fly_types.proofs.SameLemmas.{same_type-Decides}
use Rattle.fly_types.proofs.Member.{IsMemberAt, IsMember-out}
use Rattle.fly_cast.specs.Castable.{sole_element, is_castable_by_form, is_castable}
use Rattle.fly_cast.specs.Conversion.{conversion_of_text, conversion_by_form, conversion_of}
use Rattle.fly_cast.specs.Fitting.{is_of, fitting_into_one, fitting_into_union, fitting_by_form, fitting_of}
use Rattle.fly_cast.proofs.Casts.{is_castable-step, is_castable-itself}
use Rattle.fly_cast.proofs.Converts.{conversion_of-step, conversion_of-itself}
use Rattle.fly_cast.proofs.Members.{is_among-Decides, is_of-Decides}
use Rattle.fly_cast.proofs.Fits.{fitting_of-step, fitting_of-itself}

abbrev int : LiteralType
int = type.Simple simple.Integer

abbrev string : LiteralType
string = type.Simple simple.Text

abbrev none : LiteralType
none = type.Simple simple.None

abbrev red : Text
red = codes "red"

abbrev green : Text
green = codes "green"

abbrev blue : Text
blue = codes "blue"

abbrev colours : LiteralType
colours = type.Enum (red ∷ green ∷ [])

abbrev only_red : LiteralType
only_red = type.Enum (red ∷ [])

abbrev or : LiteralType → LiteralType → LiteralType
or a b = type.Union (a ∷ b ∷ [])

-- ---- by the rules

or-true : (b : Bool) → (b || true) ≡ true
or-true true = refl
or-true false = refl

not-same : (a b : LiteralType) (p q : TypeLayer) (s : Bool) → same_type a b ≡ s → out-LiteralType a ≡ p
    → out-LiteralType b ≡ q → (p ≡ q → ⊥) → s ≡ false
not-same a b p q true same ea eb differ =
    absurd (differ (sym ea ∙ ap out-LiteralType ((same_type-Decides a b).0 same) ∙ eb))
not-same a b p q false same ea eb differ = refl

differ : (a b : LiteralType) (p q : TypeLayer) → out-LiteralType a ≡ p → out-LiteralType b ≡ q → (p ≡ q → ⊥)
    → same_type a b ≡ false
differ a b p q ea eb d = not-same a b p q (same_type a b) refl ea eb d

two_types : (a b : LiteralType) (p q : TypeLayer) → out-LiteralType a ≡ p → out-LiteralType b ≡ q → (p ≡ q → ⊥) → a
    ≡ b → ⊥
two_types a b p q ea eb d e = d (sym ea ∙ ap out-LiteralType e ∙ eb)

by_form : (a b : LiteralType) (p q : TypeLayer) → out-LiteralType a ≡ p → out-LiteralType b ≡ q
    → is_castable a b ≡ (same_type a b || is_castable_by_form is_castable a b p q)
by_form a b p q ea eb = is_castable-step a b ∙ (λ i. same_type a b || is_castable_by_form is_castable a b (ea i) (eb i))

casts : (a b : LiteralType) (p q : TypeLayer) → out-LiteralType a ≡ p → out-LiteralType b ≡ q
    → is_castable_by_form is_castable a b p q ≡ true → is_castable a b ≡ true
casts a b p q ea eb e = by_form a b p q ea eb ∙ ap (λ c. same_type a b || c) e ∙ or-true (same_type a b)

does_not_cast : (a b : LiteralType) (p q : TypeLayer) → out-LiteralType a ≡ p → out-LiteralType b ≡ q → (p ≡ q → ⊥)
    → is_castable_by_form is_castable a b p q ≡ false
    → is_castable a b ≡ false
does_not_cast a b p q ea eb d e =
    by_form a b p q ea eb ∙ ap (λ s. s || is_castable_by_form is_castable a b p q) (differ a b p q ea eb d) ∙ e

converts : (l : Literal) (a b : LiteralType) (p q : TypeLayer) → out-LiteralType a ≡ p → out-LiteralType b ≡ q
    → (p ≡ q → ⊥) → IsMemberAt p l
    → conversion_of l a b ≡ conversion_by_form conversion_of l a b p q
converts l a b p q ea eb d at =
    let member : IsMember a l = subst (λ (P : Literal → Type 0). P l) (sym (IsMember-out a ∙ ap IsMemberAt ea)) at in
    conversion_of-step l a b member
    ∙ ap (λ s. if s then Ok l else conversion_by_form conversion_of l a b (out-LiteralType a) (out-LiteralType b))
    (differ a b p q ea eb d)
    ∙ (λ i. conversion_by_form conversion_of l a b (ea i) (eb i))

-- ---- castability

-- the type union(STRING, enum red) to STRING
a_union_of_texts_casts : is_castable (or string only_red) string ≡ true
a_union_of_texts_casts =
    let enum : is_castable only_red string ≡ true =
    casts only_red string _ _ (type_view.outs-Enum _) (type_view.outs-Simple _) refl in
    casts (or string only_red) string _ _ (type_view.outs-Union _) (type_view.outs-Simple _)
    (λ i. is_castable-itself string i && (enum i && true))

-- the type union(STRING, INTEGER) to STRING
a_union_with_another_type_does_not_cast : is_castable (or string int) string ≡ false
a_union_with_another_type_does_not_cast =
    let integer : is_castable int string ≡ false =
    does_not_cast int string _ _ (type_view.outs-Simple _) (type_view.outs-Simple _) (λ e. cc) refl in
    does_not_cast (or string int) string _ _ (type_view.outs-Union _) (type_view.outs-Simple _) (λ e. cc)
    (λ i. is_castable-itself string i && (integer i && true))

-- the type INTEGER to union(INTEGER, INTEGER)
two_variants_take_it : is_castable int (or int int) ≡ false
two_variants_take_it =
    does_not_cast int (or int int) _ _ (type_view.outs-Simple _) (type_view.outs-Union _) (λ e. cc)
    (ap (λ b. is_some (sole_element (cond b (int ∷ cond b (int ∷ []) []) (cond b (int ∷ []) []))))
    (is_castable-itself int))

-- the type [NONE] to [INTEGER]
a_list_of_none_does_not_cast : is_castable (type.Collection none) (type.Collection int) ≡ false
a_list_of_none_does_not_cast =
    let element : is_castable none int ≡ false =
    does_not_cast none int _ _ (type_view.outs-Simple _) (type_view.outs-Simple _) (λ e. cc) refl in
    does_not_cast (type.Collection none) (type.Collection int) _ _ (type_view.outs-Collection _)
    (type_view.outs-Collection _)
    (λ e. let same : none ≡ int = cc in
    two_types none int _ _ (type_view.outs-Simple _) (type_view.outs-Simple _) (λ d. cc) same)
    element

-- ---- conversion

-- Integer 3 of INTEGER to INTEGER
an_integer_stays : (three : _) → conversion_of (literal.Integer three) int int ≡ Ok (literal.Integer three)
an_integer_stays three = conversion_of-itself (literal.Integer three) int

-- Union(Text `red`, STRING) of union(STRING, enum red) to the same union
a_union_scalar_stays : conversion_of (literal.Union (literal.Text red) string) (or string only_red)
    (or string only_red) ≡ Ok (literal.Union (literal.Text red) string)
a_union_scalar_stays = conversion_of-itself (literal.Union (literal.Text red) string) (or string only_red)

-- Text `red` of enum red, green to STRING
an_enum_value_is_a_text : conversion_of (literal.Text red) colours string ≡ Ok (literal.Text red)
an_enum_value_is_a_text =
    converts (literal.Text red) colours string _ _ (type_view.outs-Enum _) (type_view.outs-Simple _) (λ e. cc)
    (subst (λ m. IsTextAmong (red ∷ green ∷ []) m) (sym (view.outs-Text red))
    ((is_among-Decides (red ∷ green ∷ []) red).0 refl))

is_text : (text : Text) → IsMemberAt (LiteralType-F.Simple simple.Text) (literal.Text text)
is_text text = ap simple_type (view.outs-Text text)

-- Text `red` of STRING to enum red, green
a_value_of_the_enum_stays : conversion_of (literal.Text red) string colours ≡ Ok (literal.Text red)
a_value_of_the_enum_stays =
    converts (literal.Text red) string colours _ _ (type_view.outs-Simple _) (type_view.outs-Enum _) (λ e. cc)
    (is_text red)
    ∙ ap (conversion_of_text (red ∷ green ∷ []) (literal.Text red)) (view.outs-Text red)

-- Text `blue` of STRING to enum red, green
a_foreign_text_is_named : conversion_of (literal.Text blue) string colours ≡ Err blue
a_foreign_text_is_named =
    converts (literal.Text blue) string colours _ _ (type_view.outs-Simple _) (type_view.outs-Enum _) (λ e. cc)
    (is_text blue)
    ∙ ap (conversion_of_text (red ∷ green ∷ []) (literal.Text blue)) (view.outs-Text blue)

-- ---- fitting

not-of : (l : Literal) (t : LiteralType) (b : Bool) → is_of t l ≡ b → (IsMember t l → ⊥) → b ≡ false
not-of l t true e n = absurd (n ((is_of-Decides t l).0 e))
not-of l t false e n = refl

fits_form : (l : Literal) (t : LiteralType) (q : TypeLayer) → out-LiteralType t ≡ q → (IsMemberAt q l → ⊥)
    → fitting_of l t ≡ fitting_by_form fitting_of l q
fits_form l t q e n =
    let other : is_of t l ≡ false =
    not-of l t (is_of t l) refl (λ h. n (subst (λ (P : Literal → Type 0). P l) (IsMember-out t ∙ ap IsMemberAt e) h)) in
    fitting_of-step l t ∙ ap (λ b. if b then Some l else fitting_by_form fitting_of l (out-LiteralType t)) other
    ∙ ap (fitting_by_form fitting_of l) e

member : (l : Literal) (t : LiteralType) (q : TypeLayer) → out-LiteralType t ≡ q → IsMemberAt q l → IsMember t l
member l t q e h = subst (λ (P : Literal → Type 0). P l) (sym (IsMember-out t ∙ ap IsMemberAt e)) h

-- a plain literal into a union of two types, by what fits
into_two : (l : Literal) (m : LiteralLayer) (a b : LiteralType) → out-Literal l ≡ m
    → (IsUnionWhere (λ variant value. IsVariant (a ∷ b ∷ []) variant value) m → ⊥)
    → fitting_of l (or a b) ≡ fitting_into_union (fitting_of l) (a ∷ b ∷ []) m
into_two l m a b e n =
    fits_form l (or a b) _ (type_view.outs-Union _)
    (λ h. n (subst (λ m. IsUnionWhere (λ variant value. IsVariant (a ∷ b ∷ []) variant value) m) e h))
    ∙ ap (fitting_into_union (fitting_of l) (a ∷ b ∷ [])) e

both_fit : (f : LiteralType → Option Literal) (a b : LiteralType) (x y : Literal) → f a ≡ Some x → f b ≡ Some y
    → fitting_into_one f (a ∷ b ∷ []) ≡ None
both_fit f a b x y e d =
    let first : is_some (f a) ≡ true = ap is_some e in
    let second : is_some (f b) ≡ true = ap is_some d in
    λ i. option_and_then (λ t. option_map (λ value. literal.Union value t) (f t))
    (sole_element (cond (first i) (a ∷ cond (second i) (b ∷ []) []) (cond (second i) (b ∷ []) [])))

one_fits : (f : LiteralType → Option Literal) (a b : LiteralType) (x : Literal) → f a ≡ Some x → f b ≡ None
    → fitting_into_one f (a ∷ b ∷ []) ≡ Some (literal.Union x a)
one_fits f a b x e d =
    let first : is_some (f a) ≡ true = ap is_some e in
    let second : is_some (f b) ≡ false = ap is_some d in
    let chosen : fitting_into_one f (a ∷ b ∷ []) ≡ option_map (λ value. literal.Union value a) (f a) =
    λ i. option_and_then (λ t. option_map (λ value. literal.Union value t) (f t))
    (sole_element (cond (first i) (a ∷ cond (second i) (b ∷ []) []) (cond (second i) (b ∷ []) []))) in
    chosen ∙ ap (option_map (λ value. literal.Union value a)) e

abbrev empty : Literal
empty = literal.Collection []

-- the empty collection into union([INTEGER], [STRING]): two variants fit
an_empty_list_fits_two : fitting_of empty (or (type.Collection int) (type.Collection string)) ≡ None
an_empty_list_fits_two =
    let one : (x : LiteralType) → fitting_of empty (type.Collection x) ≡ Some empty =
    λ x. fitting_of-itself empty (type.Collection x) (member empty (type.Collection x) _ (type_view.outs-Collection x)
    (subst (λ m. IsCollectionOf (IsMember x) m) (sym (view.outs-Collection [])) (All-nil (IsMember x)))) in
    into_two empty (Literal-F.Collection []) (type.Collection int) (type.Collection string) (view.outs-Collection [])
    (λ h. h)
    ∙ both_fit (fitting_of empty) (type.Collection int) (type.Collection string) empty empty (one int) (one string)

-- Text `blue` into union(STRING, enum red): wrapped in STRING
a_text_goes_into_string : fitting_of (literal.Text blue) (or string only_red)
    ≡ Some (literal.Union (literal.Text blue) string)
a_text_goes_into_string =
    let into : fitting_of (literal.Text blue) string ≡ Some (literal.Text blue) =
    fitting_of-itself (literal.Text blue) string
    (member (literal.Text blue) string _ (type_view.outs-Simple simple.Text) (is_text blue)) in
    let not : fitting_of (literal.Text blue) only_red ≡ None =
    fits_form (literal.Text blue) only_red _ (type_view.outs-Enum (red ∷ []))
    (λ h. let here : Contains (red ∷ []) blue = subst (λ m. IsTextAmong (red ∷ []) m) (view.outs-Text blue) h in
    let among : false ≡ true = (is_among-Decides (red ∷ []) blue).1 here in cc) in
    into_two (literal.Text blue) (Literal-F.Text blue) string only_red (view.outs-Text blue) (λ h. h)
    ∙ one_fits (fitting_of (literal.Text blue)) string only_red (literal.Text blue) into not

-- Text `red` into union(STRING, enum red): two variants fit
a_text_of_the_enum_fits_two : fitting_of (literal.Text red) (or string only_red) ≡ None
a_text_of_the_enum_fits_two =
    let into : fitting_of (literal.Text red) string ≡ Some (literal.Text red) =
    fitting_of-itself (literal.Text red) string
    (member (literal.Text red) string _ (type_view.outs-Simple simple.Text) (is_text red)) in
    let too : fitting_of (literal.Text red) only_red ≡ Some (literal.Text red) =
    fitting_of-itself (literal.Text red) only_red (member (literal.Text red) only_red _ (type_view.outs-Enum (red ∷ []))
    (subst (λ m. IsTextAmong (red ∷ []) m) (sym (view.outs-Text red)) ((is_among-Decides (red ∷ []) red).0 refl))) in
    into_two (literal.Text red) (Literal-F.Text red) string only_red (view.outs-Text red) (λ h. h)
    ∙ both_fit (fitting_of (literal.Text red)) string only_red (literal.Text red) (literal.Text red) into too
