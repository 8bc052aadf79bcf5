-- Castability by its rules: what it is at two types, from what it is at their parts.
use Rattle.std.proofs.Common.{◌≡◌, ◌↔◌, IsTrue, ℕ, zero, suc, ◌+◌, ◌-◌, ◌≤◌, Bool, true, false, ◌||◌, List, refl, sym, ◌∙◌, ap, arith}
use Rattle.std.specs.Prelude.{is_some, filter}
use Rattle.fly_types.specs.declared.kinds.LiteralType.{LiteralType, out-LiteralType}
use Rattle.fly_types.specs.declared.kinds.LiteralType.TheOpen.{LiteralType-F}
use Rattle.fly_types.specs.Layer.{TypeLayer}
use Rattle.fly_types.specs.Same.{same_type}
use Rattle.fly_types.proofs.SameLemmas.{same_type-Decides, answers_same_type}
use Rattle.fly_types.specs.Levels.{type_levels}
use Rattle.fly_cast.specs.Castable.{sole_element, is_castable_by_form, is_castable_within, is_castable}
use Rattle.fly_cast.proofs.Levels.{layer_levels, type_levels-out, type_levels-positive, variants-below}
use Rattle.fly_cast.proofs.Lists.{list_all-same, filter-same, each-map}

-- two tests that agree at types of so many levels in all
abbrev pub AgreeWithin : ℕ → (c d : LiteralType → LiteralType → Bool) → Type 0
AgreeWithin k c d = (x y : LiteralType) → type_levels x + type_levels y ≤ k → c x y ≡ d x y

into_union-same : (c d : LiteralType → LiteralType → Bool) (k : ℕ) (a : LiteralType) (ts : List LiteralType)
    → AgreeWithin k c d → type_levels a + layer_levels (LiteralType-F.Union ts) ≤ k + 1
    → is_some (sole_element (filter (c a) ts)) ≡ is_some (sole_element (filter (d a) ts))
into_union-same c d k a ts agree le =
    ap (λ xs. is_some (sole_element xs)) (filter-same (c a) (d a) ts
    (each-map (λ t. type_levels t ≤ k - type_levels a) (λ t. c a t ≡ d a t) (λ t low. agree a t (omega arith)) ts
    (variants-below (k - type_levels a) ts (omega arith))))

is_castable_by_form-same : (c d : LiteralType → LiteralType → Bool) (k : ℕ) (a b : LiteralType) (p q : TypeLayer)
    → AgreeWithin k c d → type_levels a ≡ layer_levels p → type_levels b ≡ layer_levels q
    → layer_levels p + layer_levels q ≤ k + 1
    → is_castable_by_form c a b p q ≡ is_castable_by_form d a b p q
is_castable_by_form-same c d k a b (LiteralType-F.Union ts) q agree pa qb le =
    list_all-same (λ t. c t b) (λ t. d t b) ts
    (each-map (λ t. type_levels t ≤ k - type_levels b) (λ t. c t b ≡ d t b) (λ t low. agree t b (omega arith)) ts
    (variants-below (k - type_levels b) ts (omega arith)))
is_castable_by_form-same c d k a b (LiteralType-F.Simple s) (LiteralType-F.Union ts) agree pa qb le =
    into_union-same c d k a ts agree (omega arith)
is_castable_by_form-same c d k a b (LiteralType-F.Collection x) (LiteralType-F.Union ts) agree pa qb le =
    into_union-same c d k a ts agree (omega arith)
is_castable_by_form-same c d k a b (LiteralType-F.Map x) (LiteralType-F.Union ts) agree pa qb le =
    into_union-same c d k a ts agree (omega arith)
is_castable_by_form-same c d k a b (LiteralType-F.Blob form) (LiteralType-F.Union ts) agree pa qb le =
    into_union-same c d k a ts agree (omega arith)
is_castable_by_form-same c d k a b (LiteralType-F.Enum values) (LiteralType-F.Union ts) agree pa qb le =
    into_union-same c d k a ts agree (omega arith)
is_castable_by_form-same c d k a b (LiteralType-F.Collection x) (LiteralType-F.Collection y) agree pa qb le =
    agree x y (omega arith)
is_castable_by_form-same c d k a b (LiteralType-F.Map x) (LiteralType-F.Map y) agree pa qb le = agree x y (omega arith)
is_castable_by_form-same c d k a b p q agree pa qb le = refl

within-same : (n m : ℕ) (a b : LiteralType) → type_levels a + type_levels b ≤ n → type_levels a + type_levels b ≤ m
    → is_castable_within n a b ≡ is_castable_within m a b
unfolding is_castable_within
within-same zero m a b h g = absurd (omega (arith, type_levels-positive a))
within-same (suc n) zero a b h g = absurd (omega (arith, type_levels-positive a))
within-same (suc n) (suc m) a b h g =
    ap (λ r. same_type a b || r)
    (is_castable_by_form-same (is_castable_within n) (is_castable_within m) (type_levels a + type_levels b - 1) a b
    (out-LiteralType a) (out-LiteralType b)
    (λ x y le. within-same n m x y (omega arith) (omega arith)) (type_levels-out a) (type_levels-out b)
    (omega (arith, type_levels-out a, type_levels-out b, type_levels-positive a)))

-- castability at two types, by the rules
pub is_castable-step : (a b : LiteralType) → is_castable a b
    ≡ (same_type a b || is_castable_by_form is_castable a b (out-LiteralType a) (out-LiteralType b))
unfolding is_castable is_castable_within
is_castable-step a b =
    let n : ℕ = type_levels a + type_levels b in
    let further : is_castable_within n a b ≡ is_castable_within (suc n) a b =
    within-same n (suc n) a b (omega arith) (omega arith) in
    further ∙ ap (λ r. same_type a b || r)
    (is_castable_by_form-same (is_castable_within n) is_castable (n - 1) a b (out-LiteralType a) (out-LiteralType b)
    (λ x y le. within-same n (type_levels x + type_levels y) x y (omega arith) (omega arith)) (type_levels-out a)
    (type_levels-out b)
    (omega (arith, type_levels-out a, type_levels-out b, type_levels-positive a)))

-- what a test of equality, and then the rules, answer

pub is_castable-same : (a b : LiteralType) (r : Bool) → (IsTrue r ↔ (a ≡ b)) → r ≡ true → r ≡ is_castable a b
is_castable-same a b r h e =
    let same : same_type a b ≡ true = sym (answers_same_type a b r h) ∙ e in
    e ∙ sym (is_castable-step a b
    ∙ ap (λ s. s || is_castable_by_form is_castable a b (out-LiteralType a) (out-LiteralType b)) same)

pub is_castable-differ : (a b : LiteralType) (r s : Bool) → (IsTrue r ↔ (a ≡ b)) → r ≡ false
    → s ≡ is_castable_by_form is_castable a b (out-LiteralType a) (out-LiteralType b) → s ≡ is_castable a b
is_castable-differ a b r s h e f =
    let same : same_type a b ≡ false = sym (answers_same_type a b r h) ∙ e in
    f ∙ sym (is_castable-step a b
    ∙ ap (λ s. s || is_castable_by_form is_castable a b (out-LiteralType a) (out-LiteralType b)) same)

pub is_castable-itself : (t : LiteralType) → is_castable t t ≡ true
is_castable-itself t =
    is_castable-step t t
    ∙ ap (λ s. s || is_castable_by_form is_castable t t (out-LiteralType t) (out-LiteralType t))
    ((same_type-Decides t t).1 refl)
