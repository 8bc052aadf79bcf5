-- Conversion by its rules: what it is between two types, from what it is between their parts.
use Rattle.std.proofs.Common.{◌≡◌, ◌↔◌, IsTrue, Result, ◌++◌, ℕ, zero, suc, ◌+◌, ◌-◌, ◌≤◌, Bool, true, false, if◌then◌else◌, List, [], ◌∷◌, filter, Ok, Err, refl, sym, ◌∙◌, ap, subst, arith}
use Rattle.std.specs.List.{AllByRecursion as Each}
use Rattle.std.proofs.lemmas.List.Elements.{recursion_from_All}
use Rattle.fly_types.specs.declared.text.Text.{Text}
use Rattle.fly_types.specs.declared.kinds.LiteralType.{LiteralType, out-LiteralType}
use Rattle.fly_types.specs.declared.kinds.LiteralType.TheOpen.{LiteralType-F}
use Rattle.fly_types.specs.declared.literals.Literal.{Literal, out-Literal}
use Rattle.fly_types.specs.declared.literals.Literal.TheOpen.{Literal-F}
use Rattle.fly_types.specs.declared.literals.Literal.TheVariants as literal
use Rattle.fly_types.specs.Layer.{TypeLayer, LiteralLayer}
use Rattle.fly_types.specs.Membership.{IsMember, IsCollectionOf, IsMapOf, IsUnionWhere, IsVariant}
use Rattle.fly_types.specs.Same.{same_type}
use Rattle.fly_types.proofs.SameLemmas.{same_type-Decides, answers_same_type}
use Rattle.fly_types.specs.Levels.{type_levels}
use Rattle.fly_types.proofs.Member.{IsMemberAt, IsMember-out}
use Rattle.fly_cast.specs.Castable.{sole_element, is_castable}
use Rattle.fly_cast.specs.declared.conversion.ConvertFault.{ConvertFault}
use Rattle.fly_cast.specs.declared.conversion.ConvertFault.TheVariants as fault
use Rattle.fly_cast.specs.Conversion.{IsAnswer, Conversion, result_map, each_result, entry_result, conversion_of_value, conversion_into, conversion_of_elements, conversion_of_entries, conversion_by_form, conversion_within, conversion_of}
use Rattle.fly_cast.proofs.Levels.{layer_levels, type_levels-out, type_levels-positive, variants-below, variant-of}
use Rattle.fly_cast.proofs.Lists.{each-map, each-filter, each_result-same, each_result-fails}

-- two conversions that agree at members of types of so many levels in all
abbrev pub AgreeWithin : ℕ → (c d : Literal → LiteralType → LiteralType → Conversion) → Type 0
AgreeWithin k c d = (x : Literal) (s t : LiteralType) → type_levels s + type_levels t ≤ k → IsMember s x → c x s t
    ≡ d x s t

value-same : (f g : Literal → LiteralType → Conversion) (l : Literal) (R : LiteralType → Literal → Type 0)
    (m : LiteralLayer)
    → IsUnionWhere R m → ((value : Literal) (variant : LiteralType) → R variant value → f value variant
    ≡ g value variant)
    → conversion_of_value f l m ≡ conversion_of_value g l m
value-same f g l R (Literal-F.Union value variant) h agree = agree value variant h
value-same f g l R _ h agree = refl

into-same : (f g : LiteralType → Conversion) (l : Literal) (ts : List LiteralType) → Each (λ t. f t ≡ g t) ts
    → conversion_into f l (sole_element ts) ≡ conversion_into g l (sole_element ts)
into-same f g l [] h = refl
into-same f g l (t ∷ []) h = ap (result_map (λ value. literal.Union value t)) h.0
into-same f g l (t ∷ s ∷ ts) h = refl

pub elements-same : (f g : Literal → Conversion) (l : Literal) (P : Literal → Type 0) (m : LiteralLayer)
    → IsCollectionOf P m → ((x : Literal) → P x → f x ≡ g x) → conversion_of_elements f l m
    ≡ conversion_of_elements g l m
elements-same f g l P (Literal-F.Collection elements) h agree =
    ap (result_map literal.Collection)
    (each_result-same f g elements (each-map P (λ x. f x ≡ g x) agree elements (recursion_from_All P elements h)))
elements-same f g l P _ h agree = refl

pub entries-same : (f g : Literal → Conversion) (l : Literal) (P : Literal → Type 0) (m : LiteralLayer)
    → IsMapOf P m → ((x : Literal) → P x → f x ≡ g x) → conversion_of_entries f l m ≡ conversion_of_entries g l m
entries-same f g l P (Literal-F.Map entries) h agree =
    ap (result_map literal.Map) (each_result-same (entry_result f) (entry_result g) entries
    (each-map (λ e. P e.1) (λ e. entry_result f e ≡ entry_result g e)
    (λ e p. ap (result_map (λ value. (e.0, value))) (agree e.1 p)) entries
    (recursion_from_All (λ e. P e.1) entries h)))
entries-same f g l P _ h agree = refl

to_union-same : (c d : Literal → LiteralType → LiteralType → Conversion) (k : ℕ) (l : Literal) (a : LiteralType)
    (ts : List LiteralType)
    → AgreeWithin k c d → IsMember a l → type_levels a + layer_levels (LiteralType-F.Union ts) ≤ k + 1
    → conversion_into (c l a) l (sole_element (filter (is_castable a) ts))
    ≡ conversion_into (d l a) l (sole_element (filter (is_castable a) ts))
to_union-same c d k l a ts agree member le =
    into-same (c l a) (d l a) l (filter (is_castable a) ts) (each-filter (λ t. c l a t ≡ d l a t) (is_castable a) ts
    (each-map (λ t. type_levels t ≤ k - type_levels a) (λ t. c l a t ≡ d l a t)
    (λ t low. agree l a t (omega arith) member) ts
    (variants-below (k - type_levels a) ts (omega arith))))

conversion_by_form-same : (c d : Literal → LiteralType → LiteralType → Conversion) (k : ℕ) (l : Literal)
    (a b : LiteralType) (p q : TypeLayer)
    → AgreeWithin k c d → IsMember a l → IsMemberAt p l → type_levels a ≡ layer_levels p → type_levels b
    ≡ layer_levels q
    → layer_levels p + layer_levels q ≤ k + 1 → conversion_by_form c l a b p q ≡ conversion_by_form d l a b p q
conversion_by_form-same c d k l a b (LiteralType-F.Union ts) q agree member at pa qb le =
    value-same (λ value variant. c value variant b) (λ value variant. d value variant b) l
    (λ variant value. IsVariant ts variant value) (out-Literal l) at
    (λ value variant h. let of = variant-of ts variant value h in agree value variant b (omega (arith, of.0)) of.1)
conversion_by_form-same c d k l a b (LiteralType-F.Simple s) (LiteralType-F.Union ts) agree member at pa qb le =
    to_union-same c d k l a ts agree member (omega arith)
conversion_by_form-same c d k l a b (LiteralType-F.Collection x) (LiteralType-F.Union ts) agree member at pa qb le =
    to_union-same c d k l a ts agree member (omega arith)
conversion_by_form-same c d k l a b (LiteralType-F.Map x) (LiteralType-F.Union ts) agree member at pa qb le =
    to_union-same c d k l a ts agree member (omega arith)
conversion_by_form-same c d k l a b (LiteralType-F.Blob form) (LiteralType-F.Union ts) agree member at pa qb le =
    to_union-same c d k l a ts agree member (omega arith)
conversion_by_form-same c d k l a b (LiteralType-F.Enum values) (LiteralType-F.Union ts) agree member at pa qb le =
    to_union-same c d k l a ts agree member (omega arith)
conversion_by_form-same c d k l a b (LiteralType-F.Collection x) (LiteralType-F.Collection y) agree member at pa qb le =
    elements-same (λ e. c e x y) (λ e. d e x y) l (IsMember x) (out-Literal l) at (λ e h. agree e x y (omega arith) h)
conversion_by_form-same c d k l a b (LiteralType-F.Map x) (LiteralType-F.Map y) agree member at pa qb le =
    entries-same (λ e. c e x y) (λ e. d e x y) l (IsMember x) (out-Literal l) at (λ e h. agree e x y (omega arith) h)
conversion_by_form-same c d k l a b p q agree member at pa qb le = refl

-- membership, said of the type's layer
pub member-at : (a : LiteralType) (l : Literal) → IsMember a l → IsMemberAt (out-LiteralType a) l
member-at a l h = subst (λ (P : Literal → Type 0). P l) (IsMember-out a) h

within-same : (n m : ℕ) (l : Literal) (a b : LiteralType) → type_levels a + type_levels b ≤ n
    → type_levels a + type_levels b ≤ m → IsMember a l
    → conversion_within n l a b ≡ conversion_within m l a b
unfolding conversion_within
within-same zero m l a b h g member = absurd (omega (arith, type_levels-positive a))
within-same (suc n) zero l a b h g member = absurd (omega (arith, type_levels-positive a))
within-same (suc n) (suc m) l a b h g member =
    ap (λ r. if same_type a b then Ok l else r)
    (conversion_by_form-same (conversion_within n) (conversion_within m) (type_levels a + type_levels b - 1) l a b
    (out-LiteralType a) (out-LiteralType b)
    (λ x s t le mem. within-same n m x s t (omega arith) (omega arith) mem) member (member-at a l member)
    (type_levels-out a) (type_levels-out b)
    (omega (arith, type_levels-out a, type_levels-out b, type_levels-positive a)))

-- conversion of a member, by the rules
pub conversion_of-step : (l : Literal) (a b : LiteralType) → IsMember a l
    → conversion_of l a b
    ≡ (if same_type a b then Ok l else conversion_by_form conversion_of l a b (out-LiteralType a) (out-LiteralType b))
unfolding conversion_of conversion_within
conversion_of-step l a b member =
    let n : ℕ = type_levels a + type_levels b in
    let further : conversion_within n l a b ≡ conversion_within (suc n) l a b =
    within-same n (suc n) l a b (omega arith) (omega arith) member in
    further ∙ ap (λ r. if same_type a b then Ok l else r)
    (conversion_by_form-same (conversion_within n) conversion_of (n - 1) l a b (out-LiteralType a) (out-LiteralType b)
    (λ x s t le mem. within-same n (type_levels s + type_levels t) x s t (omega arith) (omega arith) mem)
    member (member-at a l member) (type_levels-out a) (type_levels-out b)
    (omega (arith, type_levels-out a, type_levels-out b, type_levels-positive a)))

-- what a test of equality, and then the rules, answer

pub conversion_of-same : (l : Literal) (a b : LiteralType) (r : Bool) → IsMember a l → (IsTrue r ↔ (a ≡ b)) → r
    ≡ true → conversion_of l a b ≡ Ok l
conversion_of-same l a b r member h e =
    let same : same_type a b ≡ true = sym (answers_same_type a b r h) ∙ e in
    conversion_of-step l a b member
    ∙ ap (λ s. if s then Ok l else conversion_by_form conversion_of l a b (out-LiteralType a) (out-LiteralType b))
    same

pub conversion_of-differ : (l : Literal) (a b : LiteralType) (r : Bool) → IsMember a l → (IsTrue r ↔ (a ≡ b)) → r
    ≡ false
    → conversion_of l a b ≡ conversion_by_form conversion_of l a b (out-LiteralType a) (out-LiteralType b)
conversion_of-differ l a b r member h e =
    let same : same_type a b ≡ false = sym (answers_same_type a b r h) ∙ e in
    conversion_of-step l a b member
    ∙ ap (λ s. if s then Ok l else conversion_by_form conversion_of l a b (out-LiteralType a) (out-LiteralType b))
    same

-- what stops at an element stops the list
pub stops-each : {X Y : Type 0} (f : X → Result Y Text) (all xs : List X) (ys : List Y) (x : X) (rest : List X)
    (d : ConvertFault)
    → all ≡ xs ++ x ∷ rest → each_result f xs ≡ Ok ys → IsAnswer (f x) (Err d) → IsAnswer (each_result f all) (Err d)
stops-each f all xs ys x rest (fault.EnumOutside text) e before here =
    ap (each_result f) e ∙ each_result-fails f xs ys x rest text before here
stops-each f all xs ys x rest fault.NoMemory e before here = here

pub answers-map : {X Y : Type 0} (g : X → Y) (wanted : Result X Text) (d : ConvertFault) → IsAnswer wanted (Err d)
    → IsAnswer (result_map g wanted) (Err d)
answers-map g wanted (fault.EnumOutside text) h = ap (result_map g) h
answers-map g wanted fault.NoMemory h = h

-- ---- at the variants of the types and the literal

pub levels-at : (a : LiteralType) (p : TypeLayer) → out-LiteralType a ≡ p → type_levels a ≡ layer_levels p
levels-at a p e = type_levels-out a ∙ ap layer_levels e

pub member-as : (a : LiteralType) (l : Literal) (p : TypeLayer) → out-LiteralType a ≡ p → IsMember a l → IsMemberAt p l
member-as a l p e h = subst (λ (d : TypeLayer). IsMemberAt d l) e (member-at a l h)

itself-within : (n : ℕ) (l : Literal) (t : LiteralType) → conversion_within n l t t ≡ Ok l
unfolding conversion_within
itself-within zero l t = refl
itself-within (suc n) l t =
    ap (λ s. if s then Ok l else conversion_by_form (conversion_within n) l t t (out-LiteralType t)
    (out-LiteralType t)) ((same_type-Decides t t).1 refl)

pub conversion_of-itself : (l : Literal) (t : LiteralType) → conversion_of l t t ≡ Ok l
unfolding conversion_of
conversion_of-itself l t = itself-within (type_levels t + type_levels t) l t
