-- Fitting by its rules, and that what fits is of the type.
use Rattle.std.proofs.Common.{◌≡◌, ◌↔◌, IsTrue, ℕ, zero, suc, ◌+◌, ◌-◌, ◌≤◌, Bool, true, false, if◌then◌else◌, List, [], ◌∷◌, ◌++◌, map, filter, Result, Ok, Err, Option, Some, None, is_some, IfOk, Bor, refl, sym, ◌∙◌, ap, subst, arith}
use Rattle.std.specs.Option.{option_map, option_and_then, option_copied}
use Rattle.std.specs.List.{All, list_all, AllByRecursion as Each}
use Rattle.std.proofs.lemmas.Bool.Decides.{same_from_decides}
use Rattle.std.proofs.lemmas.List.Elements.{All-from_recursion}
use Rattle.fly_types.specs.declared.text.Text.{Text}
use Rattle.fly_types.specs.declared.kinds.LiteralType.{LiteralType, out-LiteralType}
use Rattle.fly_types.specs.declared.kinds.LiteralType.TheOpen.{LiteralType-F}
use Rattle.fly_types.specs.declared.literals.Literal.{Literal, out-Literal, roll-Literal}
use Rattle.fly_types.specs.declared.literals.Literal.TheOpen.{Literal-F}
use Rattle.fly_types.specs.declared.literals.Literal.TheVariants as literal
use Rattle.fly_types.specs.declared.literals.Literal.TheViews as view
use Rattle.fly_types.specs.Layer.{TypeLayer, LiteralLayer}
use Rattle.fly_types.specs.Membership.{IsMember, IsCollectionOf, IsMapOf, IsUnionWhere, IsVariant}
use Rattle.fly_types.specs.Levels.{type_levels, largest}
use Rattle.fly_types.proofs.Member.{IsMemberAt, IsMember-out}
use Rattle.fly_cast.specs.declared.fitting.FitFault.{FitFault}
use Rattle.fly_cast.specs.declared.fitting.FitFault.TheVariants as fault
use Rattle.fly_cast.specs.Castable.{sole_element}
use Rattle.fly_cast.specs.Fitting.{is_of, each_value, entry_value, fitting_of_elements, fitting_of_entries, fitting_into_one, fitting_into_union, fitting_by_form, fitting_within, fitting_of, IsFitted}
use Rattle.fly_cast.proofs.Levels.{layer_levels, type_levels-out, type_levels-positive, variants-below, sole_element-levels}
use Rattle.fly_cast.proofs.Lists.{each-map, each-filter, filter-same, sole_element-has, sole_element-passes, some_each}
use Rattle.fly_cast.proofs.Members.{is_of-Decides}
use Rattle.fly_cast.proofs.Options.{map-some, is_some-map, each_value-fails, each_value-tests, each-some}

-- two fittings that agree at types of so many levels
abbrev AgreeWithin : ℕ → (c d : Literal → LiteralType → Option Literal) → Type 0
AgreeWithin k c d = (x : Literal) (t : LiteralType) → type_levels t ≤ k → c x t ≡ d x t

first-same : (f g : LiteralType → Option Literal) (ts : List LiteralType) → Each (λ t. f t ≡ g t) ts
    → option_and_then (λ t. option_map (λ value. literal.Union value t) (f t)) (sole_element ts)
    ≡ option_and_then (λ t. option_map (λ value. literal.Union value t) (g t)) (sole_element ts)
first-same f g [] h = refl
first-same f g (t ∷ []) h = ap (option_map (λ value. literal.Union value t)) h.0
first-same f g (t ∷ s ∷ ts) h = refl

fitting_into_one-same : (f g : LiteralType → Option Literal) (ts : List LiteralType) → Each (λ t. f t ≡ g t) ts
    → fitting_into_one f ts ≡ fitting_into_one g ts
fitting_into_one-same f g ts h =
    let takers : filter (λ t. is_some (f t)) ts ≡ filter (λ t. is_some (g t)) ts =
    filter-same (λ t. is_some (f t)) (λ t. is_some (g t)) ts
    (each-map (λ t. f t ≡ g t) (λ t. is_some (f t) ≡ is_some (g t)) (λ t e. ap is_some e) ts h) in
    ap (λ ss. option_and_then (λ t. option_map (λ value. literal.Union value t) (f t)) (sole_element ss)) takers
    ∙ first-same f g (filter (λ t. is_some (g t)) ts) (each-filter (λ t. f t ≡ g t) (λ t. is_some (g t)) ts h)

fitting_into_union-same : (f g : LiteralType → Option Literal) (ts : List LiteralType) (m : LiteralLayer)
    → Each (λ t. f t ≡ g t) ts
    → fitting_into_union f ts m ≡ fitting_into_union g ts m
fitting_into_union-same f g ts (Literal-F.Union value variant) h = refl
fitting_into_union-same f g ts _ h = fitting_into_one-same f g ts h

fitting_by_form-same : (c d : Literal → LiteralType → Option Literal) (k : ℕ) (l : Literal) (q : TypeLayer)
    → AgreeWithin k c d → layer_levels q ≤ k + 1
    → fitting_by_form c l q ≡ fitting_by_form d l q
fitting_by_form-same c d k l (LiteralType-F.Union ts) agree le =
    fitting_into_union-same (c l) (d l) ts (out-Literal l)
    (each-map (λ t. type_levels t ≤ k) (λ t. c l t ≡ d l t) (λ t low. agree l t low) ts
    (variants-below k ts (omega arith)))
fitting_by_form-same c d k l (LiteralType-F.Collection x) agree le =
    let low : type_levels x ≤ k = omega arith in λ i. fitting_of_elements (λ e. agree e x low i) (out-Literal l)
fitting_by_form-same c d k l (LiteralType-F.Map x) agree le =
    let low : type_levels x ≤ k = omega arith in λ i. fitting_of_entries (λ e. agree e x low i) (out-Literal l)
fitting_by_form-same c d k l _ agree le = refl

within-same : (n m : ℕ) (l : Literal) (t : LiteralType) → type_levels t ≤ n → type_levels t ≤ m
    → fitting_within n l t ≡ fitting_within m l t
unfolding fitting_within
within-same zero m l t h g = absurd (omega (arith, type_levels-positive t))
within-same (suc n) zero l t h g = absurd (omega (arith, type_levels-positive t))
within-same (suc n) (suc m) l t h g =
    ap (λ r. if is_of t l then Some l else r)
    (fitting_by_form-same (fitting_within n) (fitting_within m) (type_levels t - 1) l (out-LiteralType t)
    (λ x s le. within-same n m x s (omega arith) (omega arith))
    (omega (arith, type_levels-out t, type_levels-positive t)))

-- fitting at a type, by the rules
pub fitting_of-step : (l : Literal) (t : LiteralType) → fitting_of l t
    ≡ (if is_of t l then Some l else fitting_by_form fitting_of l (out-LiteralType t))
unfolding fitting_of fitting_within
fitting_of-step l t =
    let n : ℕ = type_levels t in
    let further : fitting_within n l t ≡ fitting_within (suc n) l t =
    within-same n (suc n) l t (omega arith) (omega arith) in
    further ∙ ap (λ r. if is_of t l then Some l else r)
    (fitting_by_form-same (fitting_within n) fitting_of (n - 1) l (out-LiteralType t)
    (λ x s le. within-same n (type_levels s) x s (omega arith) (omega arith))
    (omega (arith, type_levels-out t, type_levels-positive t)))

-- ---- what a test of membership, and then the rules, answer

pub fitting_of-member : (l : Literal) (t : LiteralType) (r : Bool) → (IsTrue r ↔ IsMember t l) → r ≡ true
    → fitting_of l t ≡ Some l
fitting_of-member l t r h e =
    let test : is_of t l ≡ true = same_from_decides (is_of t l) r (is_of-Decides t l) h ∙ e in
    fitting_of-step l t ∙ ap (λ b. if b then Some l else fitting_by_form fitting_of l (out-LiteralType t)) test

pub fitting_of-other : (l : Literal) (t : LiteralType) (r : Bool) → (IsTrue r ↔ IsMember t l) → r ≡ false
    → fitting_of l t ≡ fitting_by_form fitting_of l (out-LiteralType t)
fitting_of-other l t r h e =
    let test : is_of t l ≡ false = same_from_decides (is_of t l) r (is_of-Decides t l) h ∙ e in
    fitting_of-step l t ∙ ap (λ b. if b then Some l else fitting_by_form fitting_of l (out-LiteralType t)) test

pub fitted-same : {X : Type 0} (v w : Option X) (r : Result X FitFault) → v ≡ w → IsFitted w r → IsFitted v r
fitted-same v w (Ok value) e h = e ∙ h
fitted-same v w (Err fault.DoesNotFit) e h = e ∙ h
fitted-same v w (Err fault.NoMemory) e h = h

pub fitted-map : {X Y : Type 0} (g : X → Y) (wanted : Option X) (d : FitFault) → IsFitted wanted (Err d)
    → IsFitted (option_map g wanted) (Err d)
fitted-map g wanted fault.DoesNotFit h = ap (option_map g) h
fitted-map g wanted fault.NoMemory h = h

-- what stops at an element stops the list
pub stops-each : {X Y : Type 0} (f : X → Option Y) (all xs : List X) (ys : List Y) (x : X) (rest : List X)
    (d : FitFault)
    → all ≡ xs ++ x ∷ rest → each_value f xs ≡ Some ys → IsFitted (f x) (Err d) → IsFitted (each_value f all) (Err d)
stops-each f all xs ys x rest fault.DoesNotFit e before here =
    ap (each_value f) e ∙ each_value-fails f xs ys x rest before here
stops-each f all xs ys x rest fault.NoMemory e before here = here

-- ---- at the variants of the type and the literal

pub elements-at : (fit : Literal → Option Literal) (l : Literal) (xs xs' : List Literal) → out-Literal l
    ≡ Literal-F.Collection xs → xs' ≡ xs
    → fitting_of_elements fit (out-Literal l) ≡ option_map literal.Collection (each_value fit xs')
elements-at fit l xs xs' e f =
    ap (fitting_of_elements fit) e ∙ ap (λ ys. option_map literal.Collection (each_value fit ys)) (sym f)

pub entries-at : (fit : Literal → Option Literal) (l : Literal) (xs xs' : List (Text × Literal)) → out-Literal l
    ≡ Literal-F.Map xs → xs' ≡ xs
    → fitting_of_entries fit (out-Literal l) ≡ option_map literal.Map (each_value (entry_value fit) xs')
entries-at fit l xs xs' e f =
    ap (fitting_of_entries fit) e ∙ ap (λ ys. option_map literal.Map (each_value (entry_value fit) ys)) (sym f)

pub form-at-collection : (l : Literal) (t x x' : LiteralType) → out-LiteralType t ≡ LiteralType-F.Collection x → x' ≡ x
    → fitting_by_form fitting_of l (out-LiteralType t) ≡ fitting_of_elements (λ e. fitting_of e x') (out-Literal l)
form-at-collection l t x x' e f =
    ap (fitting_by_form fitting_of l) e ∙ ap (λ y. fitting_of_elements (λ e. fitting_of e y) (out-Literal l)) (sym f)

pub form-at-map : (l : Literal) (t x x' : LiteralType) → out-LiteralType t ≡ LiteralType-F.Map x → x' ≡ x
    → fitting_by_form fitting_of l (out-LiteralType t) ≡ fitting_of_entries (λ e. fitting_of e x') (out-Literal l)
form-at-map l t x x' e f =
    ap (fitting_by_form fitting_of l) e ∙ ap (λ y. fitting_of_entries (λ e. fitting_of e y) (out-Literal l)) (sym f)

pub elements-test : (fit : Literal → Option Literal) (l : Literal) (xs xs' : List Literal) → out-Literal l
    ≡ Literal-F.Collection xs → xs' ≡ xs
    → is_some (fitting_of_elements fit (out-Literal l)) ≡ list_all (λ x. is_some (fit x)) xs'
elements-test fit l xs xs' e f =
    ap is_some (elements-at fit l xs xs' e f) ∙ is_some-map literal.Collection (each_value fit xs')
    ∙ each_value-tests fit (λ x. is_some (fit x)) xs' (λ x. refl)

pub entries-test : (fit : Literal → Option Literal) (l : Literal) (xs xs' : List (Text × Literal)) → out-Literal l
    ≡ Literal-F.Map xs → xs' ≡ xs
    → is_some (fitting_of_entries fit (out-Literal l)) ≡ list_all (λ x. is_some (fit x.1)) xs'
entries-test fit l xs xs' e f =
    ap is_some (entries-at fit l xs xs' e f) ∙ is_some-map literal.Map (each_value (entry_value fit) xs')
    ∙ each_value-tests (entry_value fit) (λ x. is_some (fit x.1)) xs'
    (λ x. is_some-map (λ value. (x.0, value)) (fit x.1))

-- the one that fits fits
one-fits : (f : LiteralType → Option Literal) (o : Option LiteralType)
    → ((t : LiteralType) → o ≡ Some t → is_some (f t) ≡ true)
    → is_some (option_and_then (λ t. option_map (λ value. literal.Union value t) (f t)) o) ≡ is_some o
one-fits f None h = refl
one-fits f (Some t) h = is_some-map (λ value. literal.Union value t) (f t) ∙ h t refl

pub fitting_into_one-test : (f : LiteralType → Option Literal) (ts : List LiteralType)
    → is_some (fitting_into_one f ts) ≡ is_some (sole_element (filter (λ t. is_some (f t)) ts))
fitting_into_one-test f ts =
    one-fits f (sole_element (filter (λ t. is_some (f t)) ts))
    (λ t e. sole_element-passes (λ t. is_some (f t)) ts t e)

-- ---- what was fitted is of the type

abbrev ReachesWithin : ℕ → Type 0
ReachesWithin n = (l r : Literal) (t : LiteralType) → type_levels t ≤ n → fitting_of l t ≡ Some r → IsMember t r

variant-reaches : (n : ℕ) (l r : Literal) (ts : List LiteralType) (o : Option LiteralType) → ReachesWithin n
    → largest (map type_levels ts) ≤ n
    → sole_element (filter (λ t. is_some (fitting_of l t)) ts) ≡ o
    → option_and_then (λ t. option_map (λ value. literal.Union value t) (fitting_of l t)) o ≡ Some r
    → IsUnionWhere (λ variant value. IsVariant ts variant value) (out-Literal r)
variant-reaches n l r ts None reaches le which e = cc
variant-reaches n l r ts (Some t) reaches le which e =
    let parts = map-some (λ value. literal.Union value t) (fitting_of l t) r e in
    let low : type_levels t ≤ largest (map type_levels ts) =
    sole_element-levels (λ t. is_some (fitting_of l t)) ts t which in
    let of : IsMember t parts.0 = reaches l parts.0 t (omega arith) parts.1 in
    let there : IsVariant ts t parts.0 =
    sole_element-has (λ s. (t ≡ s) × IsMember s parts.0 → IsVariant ts t parts.0)
    (λ t. is_some (fitting_of l t)) ts t which
    (some_each (λ s. (t ≡ s) × IsMember s parts.0) ts) (refl, of) in
    let out : out-Literal r ≡ Literal-F.Union parts.0 t = ap out-Literal parts.2 ∙ view.outs-Union _ _ in
    subst (λ m. IsUnionWhere (λ variant value. IsVariant ts variant value) m) (sym out) there

union-reaches : (n : ℕ) (l r : Literal) (ts : List LiteralType) (m : LiteralLayer) → ReachesWithin n
    → largest (map type_levels ts) ≤ n
    → fitting_into_union (fitting_of l) ts m ≡ Some r
    → IsUnionWhere (λ variant value. IsVariant ts variant value) (out-Literal r)
union-reaches n l r ts (Literal-F.Union value variant) reaches le e = cc
union-reaches n l r ts _ reaches le e = variant-reaches n l r ts _ reaches le refl e

elements-reach : (n : ℕ) (r : Literal) (x : LiteralType) (m : LiteralLayer) → ReachesWithin n → type_levels x ≤ n
    → fitting_of_elements (λ e. fitting_of e x) m ≡ Some r → IsCollectionOf (IsMember x) (out-Literal r)
elements-reach n r x (Literal-F.Collection elements) reaches le e =
    let parts = map-some literal.Collection (each_value (λ e. fitting_of e x) elements) r e in
    let all : All (IsMember x) parts.0 = All-from_recursion (IsMember x) parts.0
    (each-some (IsMember x) (λ e. fitting_of e x) (λ z w is. reaches z w x le is) elements parts.0 parts.1) in
    let out : out-Literal r ≡ Literal-F.Collection parts.0 = ap out-Literal parts.2 ∙ view.outs-Collection _ in
    subst (λ m. IsCollectionOf (IsMember x) m) (sym out) all
elements-reach n r x _ reaches le e = cc

entries-reach : (n : ℕ) (r : Literal) (x : LiteralType) (m : LiteralLayer) → ReachesWithin n → type_levels x ≤ n
    → fitting_of_entries (λ e. fitting_of e x) m ≡ Some r → IsMapOf (IsMember x) (out-Literal r)
entries-reach n r x (Literal-F.Map entries) reaches le e =
    let parts = map-some literal.Map (each_value (entry_value (λ e. fitting_of e x)) entries) r e in
    let step : (z w : Text × Literal) → entry_value (λ e. fitting_of e x) z ≡ Some w → IsMember x w.1 =
    λ z w is. let one = map-some (λ v. (z.0, v)) (fitting_of z.1 x) w is in
    subst (λ (u : Text × Literal). IsMember x u.1) (sym one.2) (reaches z.1 one.0 x le one.1) in
    let all : All (λ u. IsMember x u.1) parts.0 = All-from_recursion (λ u. IsMember x u.1) parts.0
    (each-some (λ u. IsMember x u.1) (entry_value (λ e. fitting_of e x)) step entries parts.0 parts.1) in
    let out : out-Literal r ≡ Literal-F.Map parts.0 = ap out-Literal parts.2 ∙ view.outs-Map _ in
    subst (λ m. IsMapOf (IsMember x) m) (sym out) all
entries-reach n r x _ reaches le e = cc

form_reaches : (n : ℕ) (l r : Literal) (q : TypeLayer) → ReachesWithin n → layer_levels q ≤ n + 1
    → fitting_by_form fitting_of l q ≡ Some r → IsMemberAt q r
form_reaches n l r (LiteralType-F.Union ts) reaches le e =
    union-reaches n l r ts (out-Literal l) reaches (omega arith) e
form_reaches n l r (LiteralType-F.Collection x) reaches le e =
    elements-reach n r x (out-Literal l) reaches (omega arith) e
form_reaches n l r (LiteralType-F.Map x) reaches le e = entries-reach n r x (out-Literal l) reaches (omega arith) e
form_reaches n l r _ reaches le e = cc

rule-reaches : (n : ℕ) (l r : Literal) (t : LiteralType) (b : Bool) → ReachesWithin n → is_of t l ≡ b
    → type_levels t ≤ n + 1 → fitting_of l t ≡ Some r → IsMember t r
rule-reaches n l r t true reaches test le e =
    let stays : fitting_of l t ≡ Some l =
    fitting_of-step l t ∙ ap (λ b. if b then Some l else fitting_by_form fitting_of l (out-LiteralType t)) test in
    let is : l ≡ r = cc in
    subst (λ x. IsMember t x) is ((is_of-Decides t l).0 test)
rule-reaches n l r t false reaches test le e =
    let form : fitting_by_form fitting_of l (out-LiteralType t) ≡ Some r =
    sym (fitting_of-step l t ∙ ap (λ b. if b then Some l else fitting_by_form fitting_of l (out-LiteralType t)) test)
    ∙ e in
    subst (λ (P : Literal → Type 0). P r) (sym (IsMember-out t))
    (form_reaches n l r (out-LiteralType t) reaches (omega (arith, type_levels-out t)) form)

reaches : (n : ℕ) → ReachesWithin n
reaches zero l r t le e = absurd (omega (arith, type_levels-positive t))
reaches (suc n) l r t le e = rule-reaches n l r t (is_of t l) (reaches n) refl (omega arith) e

pub fitted-member : (l r : Literal) (t : LiteralType) → fitting_of l t ≡ Some r → IsMember t r
fitted-member l r t e = reaches (type_levels t) l r t (omega arith) e

pub answers-member : (l : Literal) (t : LiteralType) (r : Result Literal FitFault) → IsFitted (fitting_of l t) r
    → IfOk r (IsMember t)
answers-member l t (Ok v) e = fitted-member l v t e
answers-member l t (Err d) e = tt

plain-layer : (f : LiteralType → Option Literal) (ts : List LiteralType) (m : LiteralLayer)
    → ((value : Literal) (variant : LiteralType) → m ≡ Literal-F.Union value variant → ⊥) → fitting_into_union f ts m
    ≡ fitting_into_one f ts
plain-layer f ts (Literal-F.Union value variant) h = absurd (h value variant refl)
plain-layer f ts _ h = refl

-- a literal that is no union scalar
pub plain-fits : (f : LiteralType → Option Literal) (ts : List LiteralType) (l : Literal)
    → ((value : Literal) (variant : LiteralType) → l ≡ literal.Union value variant → ⊥)
    → fitting_into_union f ts (out-Literal l) ≡ fitting_into_one f ts
plain-fits f ts l h =
    plain-layer f ts (out-Literal l)
    (λ value variant e. h value variant
    (sym (view.roll-out-Literal l) ∙ ap roll-Literal e ∙ view.rolls-Union value variant))

pub is_some-copied : {X : Type 0} (o : Option (Bor X)) → is_some o ≡ is_some (option_copied o)
is_some-copied None = refl
is_some-copied (Some x) = refl

pub fitting_of-itself : (l : Literal) (t : LiteralType) → IsMember t l → fitting_of l t ≡ Some l
fitting_of-itself l t h =
    fitting_of-step l t ∙ ap (λ b. if b then Some l else fitting_by_form fitting_of l (out-LiteralType t))
    ((is_of-Decides t l).1 h)
