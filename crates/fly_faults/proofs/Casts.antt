-- What lists cast to.
use Rattle.std.proofs.Common.{◌≡◌, ◌↔◌, IsTrue, Bool, true, false, ◌||◌, ◌&&◌, List, [], ◌∷◌, length, refl, sym, ◌∙◌, ap, is_some, filter}
use Rattle.std.proofs.lemmas.Bool.{false≢true}
use Rattle.fly_types.specs.declared.kinds.Simple.TheVariants as simple
use Rattle.fly_types.specs.declared.kinds.LiteralType.{LiteralType, out-LiteralType, roll-LiteralType}
use Rattle.fly_types.specs.declared.kinds.LiteralType.TheOpen.{LiteralType-F}
use Rattle.fly_types.specs.declared.kinds.LiteralType.TheVariants as type
use Rattle.fly_types.specs.declared.kinds.LiteralType.TheViews as view
use Rattle.fly_types.specs.Layer.{TypeLayer}
use Rattle.fly_types.specs.Same.{same_type}
use Rattle.fly_types.proofs.SameLemmas.{same_type-Decides}
use Rattle.fly_cast.specs.Castable.{sole_element, is_castable_by_form, is_castable}
use Rattle.fly_cast.proofs.Casts.{is_castable-step, is_castable-itself}
use Rattle.fly_faults.specs.OutputTypes.{optional, item_type}

absorbed : (a b : Bool) → (a ≡ true → b ≡ true) → (a || b) ≡ b
absorbed true b h = sym (h refl)
absorbed false b h = refl

-- the part of a list type
element-same : (e y t : LiteralType) → out-LiteralType t ≡ LiteralType-F.Collection y → type.Collection e ≡ t → e ≡ y
element-same e y t out same = let outs : LiteralType-F.Collection e ≡ LiteralType-F.Collection y = sym (view.outs-Collection e) ∙ ap out-LiteralType same ∙ out in cc

list-step : (e t : LiteralType) (q : TypeLayer) → out-LiteralType t ≡ q
    → is_castable (type.Collection e) t ≡ (same_type (type.Collection e) t || is_castable_by_form is_castable (type.Collection e) t (LiteralType-F.Collection e) q)
list-step e t q out =
    is_castable-step (type.Collection e) t
    ∙ (λ i. same_type (type.Collection e) t || is_castable_by_form is_castable (type.Collection e) t (view.outs-Collection e i) (out i))

pub list-to_list : (e t y : LiteralType) → out-LiteralType t ≡ LiteralType-F.Collection y → is_castable (type.Collection e) t ≡ is_castable e y
list-to_list e t y out =
    list-step e t (LiteralType-F.Collection y) out
    ∙ absorbed _ _ (λ same. ap (λ z. is_castable z y) (element-same e y t out ((same_type-Decides _ _).0 same)) ∙ is_castable-itself y)

other-form : (e t : LiteralType) (q : TypeLayer) → out-LiteralType t ≡ q → ((y : LiteralType) → q ≡ LiteralType-F.Collection y → ⊥)
    → is_castable (type.Collection e) t ≡ is_castable_by_form is_castable (type.Collection e) t (LiteralType-F.Collection e) q
other-form e t q out differs =
    list-step e t q out
    ∙ absorbed _ _ (λ same. absurd (differs e (sym out ∙ ap out-LiteralType (sym ((same_type-Decides _ _).0 same)) ∙ view.outs-Collection e)))

pub list-to_union : (e t : LiteralType) (ts : List LiteralType) → out-LiteralType t ≡ LiteralType-F.Union ts
    → is_castable (type.Collection e) t ≡ is_some (sole_element (filter (is_castable (type.Collection e)) ts))
list-to_union e t ts out = other-form e t (LiteralType-F.Union ts) out (λ y same. cc)

list-to_layer : (e t : LiteralType) (q : TypeLayer) → out-LiteralType t ≡ q → ((y : LiteralType) → q ≡ LiteralType-F.Collection y → ⊥)
    → ((ts : List LiteralType) → q ≡ LiteralType-F.Union ts → ⊥) → is_castable (type.Collection e) t ≡ false
list-to_layer e t (LiteralType-F.Collection y) out not_list not_union = absurd (not_list y refl)
list-to_layer e t (LiteralType-F.Union ts) out not_list not_union = absurd (not_union ts refl)
list-to_layer e t (LiteralType-F.Simple s) out not_list not_union = other-form e t (LiteralType-F.Simple s) out not_list
list-to_layer e t (LiteralType-F.Map y) out not_list not_union = other-form e t (LiteralType-F.Map y) out not_list
list-to_layer e t (LiteralType-F.Blob form) out not_list not_union = other-form e t (LiteralType-F.Blob form) out not_list
list-to_layer e t (LiteralType-F.Enum values) out not_list not_union = other-form e t (LiteralType-F.Enum values) out not_list

pub list-to_other : (e t : LiteralType) → ((y : LiteralType) → t ≡ type.Collection y → ⊥) → ((ts : List LiteralType) → t ≡ type.Union ts → ⊥)
    → is_castable (type.Collection e) t ≡ false
list-to_other e t not_list not_union =
    list-to_layer e t (out-LiteralType t) refl
    (λ y is. not_list y (sym (view.roll-out-LiteralType t) ∙ ap roll-LiteralType is ∙ view.rolls-Collection y))
    (λ ts is. not_union ts (sym (view.roll-out-LiteralType t) ∙ ap roll-LiteralType is ∙ view.rolls-Union ts))

-- ---- optional types

collection-injective : (x y : LiteralType) → type.Collection x ≡ type.Collection y → x ≡ y
collection-injective x y e = element-same x y (type.Collection y) (view.outs-Collection y) e

pub union-injective : (xs ys : List LiteralType) → type.Union xs ≡ type.Union ys → xs ≡ ys
union-injective xs ys e = let outs : LiteralType-F.Union xs ≡ LiteralType-F.Union ys = sym (view.outs-Union xs) ∙ ap out-LiteralType e ∙ view.outs-Union ys in cc

optional-injective : (x y : LiteralType) → optional x ≡ optional y → x ≡ y
optional-injective x y e = let parts = union-injective _ _ e in cc

abbrev none : LiteralType
none = type.Simple simple.None

-- a list of two types is that of an optional one

pub optional-then : (vs : List LiteralType) (a b e : LiteralType) (q : Bool) → vs ≡ a ∷ b ∷ [] → a ≡ e → (IsTrue q ↔ (b ≡ none)) → IsTrue q ↔ (type.Union vs ≡ optional e)
optional-then vs a b e q two first second = (
  λ t. ap type.Union (two ∙ (λ i. first i ∷ second.0 t i ∷ [])),
  λ same. second.1 (let parts : a ∷ b ∷ [] ≡ e ∷ none ∷ [] = sym two ∙ union-injective vs (e ∷ none ∷ []) same in cc),
)

pub optional-else : (vs : List LiteralType) (a b e : LiteralType) (p : Bool) → vs ≡ a ∷ b ∷ [] → (IsTrue p ↔ (a ≡ e)) → p ≡ false → IsTrue p ↔ (type.Union vs ≡ optional e)
optional-else vs a b e p two first fails_ = (
  λ t. absurd (false≢true (sym fails_ ∙ t)),
  λ same. first.1 (let parts : a ∷ b ∷ [] ≡ e ∷ none ∷ [] = sym two ∙ union-injective vs (e ∷ none ∷ []) same in cc),
)

pub optional-not : (vs : List LiteralType) (e : LiteralType) → (length vs ≡ 2 → ⊥) → IsTrue false ↔ (type.Union vs ≡ optional e)
optional-not vs e long = (λ t. absurd (false≢true t), λ same. absurd (long (ap length (union-injective vs (e ∷ none ∷ []) same))))

-- ---- lists of the same items

pub lists-both : (m n : Bool) (a b : LiteralType) (r : Bool) → m ≡ true → n ≡ true → (IsTrue r ↔ (a ≡ b))
    → IsTrue r ↔ (type.Collection (item_type m a) ≡ type.Collection (item_type n b))
lists-both false n a b r p q h = absurd (false≢true p)
lists-both true false a b r p q h = absurd (false≢true q)
lists-both true true a b r p q h =
    (λ t. ap (λ x. type.Collection (optional x)) (h.0 t), λ same. h.1 (optional-injective a b (collection-injective _ _ same)))

pub lists-first : (m n : Bool) (a b : LiteralType) (r : Bool) → m ≡ true → n ≡ false → (IsTrue r ↔ (b ≡ optional a))
    → IsTrue r ↔ (type.Collection (item_type m a) ≡ type.Collection (item_type n b))
lists-first false n a b r p q h = absurd (false≢true p)
lists-first true true a b r p q h = absurd (false≢true (sym q))
lists-first true false a b r p q h =
    (λ t. ap type.Collection (sym (h.0 t)), λ same. h.1 (sym (collection-injective _ _ same)))

pub lists-plain : (m n : Bool) (a b : LiteralType) (r : Bool) → m ≡ false → (IsTrue r ↔ (a ≡ item_type n b))
    → IsTrue r ↔ (type.Collection (item_type m a) ≡ type.Collection (item_type n b))
lists-plain true n a b r p h = absurd (false≢true (sym p))
lists-plain false n a b r p h = (λ t. ap type.Collection (h.0 t), λ same. h.1 (collection-injective _ _ same))

-- ---- what optional types cast to

pub optional-same : (e t : LiteralType) (r : Bool) → (IsTrue r ↔ (t ≡ optional e)) → r ≡ true → true ≡ is_castable (optional e) t
optional-same e t r h holds = sym (ap (is_castable (optional e)) (h.0 holds) ∙ is_castable-itself (optional e))

not_true : (b : Bool) → (b ≡ true → ⊥) → b ≡ false
not_true true h = absurd (h refl)
not_true false h = refl

optional-step : (e t : LiteralType) (r : Bool) → (IsTrue r ↔ (t ≡ optional e)) → r ≡ false
    → is_castable (optional e) t ≡ (is_castable e t && (is_castable none t && true))
optional-step e t r h fails_ =
    let differ : same_type (optional e) t ≡ false =
    not_true _ (λ same. false≢true (sym fails_ ∙ h.1 (sym ((same_type-Decides (optional e) t).0 same)))) in
    is_castable-step (optional e) t
    ∙ (λ i. differ i || is_castable_by_form is_castable (optional e) t (view.outs-Union (e ∷ none ∷ []) i) (out-LiteralType t))

pub optional-refused : (e t : LiteralType) (r s : Bool) → (IsTrue r ↔ (t ≡ optional e)) → r ≡ false → s ≡ is_castable e t → s ≡ false
    → false ≡ is_castable (optional e) t
optional-refused e t r s h fails_ is fails =
    sym (optional-step e t r h fails_ ∙ ap (λ b. b && (is_castable none t && true)) (sym is ∙ fails))

pub optional-rest : (e t : LiteralType) (r s : Bool) → (IsTrue r ↔ (t ≡ optional e)) → r ≡ false → s ≡ is_castable e t → s ≡ true
    → is_castable none t ≡ is_castable (optional e) t
optional-rest e t r s h fails_ is passes =
    sym (optional-step e t r h fails_ ∙ ap (λ b. b && (is_castable none t && true)) (sym is ∙ passes) ∙ and-true (is_castable none t))
  where
    and-true : (b : Bool) → (b && true) ≡ b
    and-true true = refl
    and-true false = refl
