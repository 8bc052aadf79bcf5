-- Lists with nothing in them, what is in a list and at which place, and what an option has.
use Rattle.std.proofs.Common.{◌≡◌, ◌⊎◌, ℕ, zero, suc, ◌+◌, ◌<◌, arith, Bool, true, false, cond, if◌then◌else◌, nat_lt, List, [], ◌∷◌, ◌++◌, map, filter, flat_map, filter_map, find, position, take, length, get_or, slice_get, Contains, All, Option, Some, None, is_some, is_none, option_map, option_and_then, option_to_list, refl, sym, ap, ◌∙◌, subst, ⊎_elim, inl, inr, length-take, get_or-take, lt-ltb}
use Rattle.std.specs.List.{list_any, list_all, enumerate_from, range_with_len, position_or_len, cons_option}
use Rattle.std.proofs.lemmas.Bool.{or_cases, or_left, or_right, and_parts, and_from, false_from_ne_true, false≢true, cond-false, cond-true, ltb-true}
use Rattle.std.proofs.lemmas.List.Elements.{Contains-get_or, Contains-append_left, Contains-append_right, Contains-append_cases}
use Rattle.std.proofs.lemmas.List.Folds.{find_at}
use Rattle.std.proofs.lemmas.Option.{slice_get_within, get_or_from_slice_get, slice_get-get_or, slice_get_cases, slice_get-map}
use Rattle.fly_docs.specs.Typed.{AreDistinct}
use Rattle.fly_graph.proofs.Members.{Contains-nil, Contains-cons_cases, Contains-filter_from}

-- ---- in a list

pub first_in : {X : Type 0} (x : X) (xs : List X) → Contains (x ∷ xs) x
first_in x xs = (0, omega arith, refl)

pub later_in : {X : Type 0} (y : X) (xs : List X) (x : X) → Contains xs x → Contains (y ∷ xs) x
later_in y xs x has = Contains-append_right (y ∷ []) xs x has

pub in_one : {X : Type 0} (y x : X) → Contains (y ∷ []) x → y ≡ x
in_one y x has = ⊎_elim (λ same. same) (λ more. absurd (Contains-nil x more)) (Contains-cons_cases y [] x has)

pub in_map : {X Y : Type 0} (f : X → Y) (xs : List X) (x : X) → Contains xs x → Contains (map f xs) (f x)
in_map f [] x has = absurd (Contains-nil x has)
in_map f (y ∷ ys) x has =
    ⊎_elim (λ same. subst (λ z. Contains (map f (y ∷ ys)) (f z)) same (first_in (f y) (map f ys)))
    (λ more. later_in (f y) (map f ys) (f x) (in_map f ys x more)) (Contains-cons_cases y ys x has)

pub of_map : {X Y : Type 0} (f : X → Y) (xs : List X) (z : Y) → Contains (map f xs) z
    → (x : X) × Contains xs x × (f x ≡ z)
of_map f [] z has = absurd (Contains-nil z has)
of_map f (y ∷ ys) z has =
    ⊎_elim (λ same. (y, first_in y ys, same))
    (λ more. let found = of_map f ys z more in (found.0, later_in y ys found.0 found.1, found.2))
    (Contains-cons_cases (f y) (map f ys) z has)

pub in_flat_map : {X Y : Type 0} (f : X → List Y) (xs : List X) (x : X) (z : Y) → Contains xs x → Contains (f x) z
    → Contains (flat_map f xs) z
in_flat_map f [] x z has there = absurd (Contains-nil x has)
in_flat_map f (y ∷ ys) x z has there =
    ⊎_elim (λ same. Contains-append_left (f y) (flat_map f ys) z (subst (λ w. Contains (f w) z) (sym same) there))
    (λ more. Contains-append_right (f y) (flat_map f ys) z (in_flat_map f ys x z more there))
    (Contains-cons_cases y ys x has)

pub of_flat_map : {X Y : Type 0} (f : X → List Y) (xs : List X) (z : Y) → Contains (flat_map f xs) z
    → (x : X) × Contains xs x × Contains (f x) z
of_flat_map f [] z has = absurd (Contains-nil z has)
of_flat_map f (y ∷ ys) z has =
    ⊎_elim (λ here. (y, first_in y ys, here))
    (λ more. let found = of_flat_map f ys z more in (found.0, later_in y ys found.0 found.1, found.2))
    (Contains-append_cases (f y) (flat_map f ys) z has)

in_cons_option : {Y : Type 0} (o : Option Y) (ys : List Y) (z : Y) → Contains ys z → Contains (cons_option o ys) z
in_cons_option None ys z has = has
in_cons_option (Some y) ys z has = later_in y ys z has

of_cons_option : {Y : Type 0} (o : Option Y) (ys : List Y) (z : Y) → Contains (cons_option o ys) z
    → (o ≡ Some z) ⊎ Contains ys z
of_cons_option None ys z has = inr has
of_cons_option (Some y) ys z has = ⊎_elim (λ same. inl (ap Some same)) (λ more. inr more)
    (Contains-cons_cases y ys z has)

pub in_filter_map : {X Y : Type 0} (f : X → Option Y) (xs : List X) (x : X) (z : Y) → Contains xs x → f x ≡ Some z
    → Contains (filter_map f xs) z
in_filter_map f [] x z has is = absurd (Contains-nil x has)
in_filter_map f (y ∷ ys) x z has is =
    ⊎_elim (λ same. subst (λ o. Contains (cons_option o (filter_map f ys)) z) (sym (ap f same ∙ is))
    (first_in z (filter_map f ys)))
    (λ more. in_cons_option (f y) (filter_map f ys) z (in_filter_map f ys x z more is))
    (Contains-cons_cases y ys x has)

pub of_filter_map : {X Y : Type 0} (f : X → Option Y) (xs : List X) (z : Y) → Contains (filter_map f xs) z
    → (x : X) × Contains xs x × (f x ≡ Some z)
of_filter_map f [] z has = absurd (Contains-nil z has)
of_filter_map f (y ∷ ys) z has =
    ⊎_elim (λ here. (y, first_in y ys, here))
    (λ more. let found = of_filter_map f ys z more in (found.0, later_in y ys found.0 found.1, found.2))
    (of_cons_option (f y) (filter_map f ys) z has)

pub in_option : {X : Type 0} (o : Option X) (x : X) → o ≡ Some x → Contains (option_to_list o) x
in_option o x is = subst (λ p. Contains (option_to_list p) x) (sym is) (first_in x [])

pub of_option : {X : Type 0} (o : Option X) (x : X) → Contains (option_to_list o) x → o ≡ Some x
of_option None x has = absurd (Contains-nil x has)
of_option (Some y) x has = ap Some (in_one y x has)

-- ---- nothing

pub append_none : {X : Type 0} (xs ys : List X) → xs ++ ys ≡ [] → (xs ≡ []) × (ys ≡ [])
append_none [] ys e = (refl, e)
append_none (x ∷ xs) ys e = cc

pub append_nothing : {X : Type 0} (xs ys : List X) → xs ≡ [] → ys ≡ [] → xs ++ ys ≡ []
append_nothing xs ys p q = λ i. p i ++ q i

pub map_none : {X Y : Type 0} (f : X → Y) (xs : List X) → map f xs ≡ [] → xs ≡ []
map_none f [] e = refl
map_none f (x ∷ xs) e = cc

pub flat_map_none : {X Y : Type 0} (f : X → List Y) (xs : List X) → flat_map f xs ≡ [] → (x : X) → Contains xs x
    → f x ≡ []
flat_map_none f [] e x has = absurd (Contains-nil x has)
flat_map_none f (y ∷ ys) e x has =
    let parts = append_none (f y) (flat_map f ys) e in
    ⊎_elim (λ same. subst (λ z. f z ≡ []) same parts.0) (λ more. flat_map_none f ys parts.1 x more)
    (Contains-cons_cases y ys x has)

pub flat_map_nothing : {X Y : Type 0} (f : X → List Y) (xs : List X) → ((x : X) → Contains xs x → f x ≡ [])
    → flat_map f xs ≡ []
flat_map_nothing f [] h = refl
flat_map_nothing f (y ∷ ys) h =
    append_nothing (f y) (flat_map f ys) (h y (first_in y ys))
    (flat_map_nothing f ys (λ x has. h x (later_in y ys x has)))

pub filter_none : {X : Type 0} (p : X → Bool) (xs : List X) → filter p xs ≡ [] → (x : X) → Contains xs x → p x ≡ false
filter_none p xs e x has =
    false_from_ne_true (p x)
    (λ passes. Contains-nil x (subst (λ ys. Contains ys x) e (Contains-filter_from p xs x has passes)))

pub filter_nothing : {X : Type 0} (p : X → Bool) (xs : List X) → ((x : X) → Contains xs x → p x ≡ false)
    → filter p xs ≡ []
filter_nothing p [] h = refl
filter_nothing p (y ∷ ys) h =
    cond-false (p y) (y ∷ filter p ys) (filter p ys) (h y (first_in y ys))
    ∙ filter_nothing p ys (λ x has. h x (later_in y ys x has))

pub one_if_none : {X : Type 0} (c : Bool) (x : X) → (if c then x ∷ [] else []) ≡ [] → c ≡ false
one_if_none true x e = cc
one_if_none false x e = refl

pub one_if_nothing : {X : Type 0} (c : Bool) (x : X) → c ≡ false → (if c then x ∷ [] else []) ≡ []
one_if_nothing c x e = cond-false c (x ∷ []) [] e

pub one_unless_none : {X : Type 0} (c : Bool) (x : X) → (if c then [] else x ∷ []) ≡ [] → c ≡ true
one_unless_none true x e = refl
one_unless_none false x e = cc

pub one_unless_nothing : {X : Type 0} (c : Bool) (x : X) → c ≡ true → (if c then [] else x ∷ []) ≡ []
one_unless_nothing c x e = cond-true c [] (x ∷ []) e

pub if_nothing : {X : Type 0} (c : Bool) (xs : List X) → xs ≡ [] → (if c then xs else []) ≡ []
if_nothing true xs e = e
if_nothing false xs e = refl

pub then_none : {X : Type 0} (c : Bool) (xs : List X) → c ≡ true → (if c then xs else []) ≡ [] → xs ≡ []
then_none true xs is e = e
then_none false xs is e = cc

-- ---- tests of lists

pub any_at : {X : Type 0} (p : X → Bool) (xs : List X) (x : X) → Contains xs x → p x ≡ true → list_any p xs ≡ true
any_at p [] x has passes = absurd (Contains-nil x has)
any_at p (y ∷ ys) x has passes =
    ⊎_elim (λ same. or_left (p y) (list_any p ys) (subst (λ z. p z ≡ true) (sym same) passes))
    (λ more. or_right (p y) (list_any p ys) (any_at p ys x more passes)) (Contains-cons_cases y ys x has)

pub any_found : {X : Type 0} (p : X → Bool) (xs : List X) → list_any p xs ≡ true
    → (x : X) × Contains xs x × (p x ≡ true)
any_found p [] e = absurd (false≢true e)
any_found p (y ∷ ys) e =
    ⊎_elim (λ here. (y, first_in y ys, here))
    (λ more. let found = any_found p ys more in (found.0, later_in y ys found.0 found.1, found.2))
    (or_cases (p y) (list_any p ys) e)

pub any_none : {X : Type 0} (p : X → Bool) (xs : List X) → list_any p xs ≡ false → (x : X) → Contains xs x
    → p x ≡ false
any_none p xs e x has = false_from_ne_true (p x) (λ passes. false≢true (sym e ∙ any_at p xs x has passes))

pub any_nothing : {X : Type 0} (p : X → Bool) (xs : List X) → ((x : X) → Contains xs x → p x ≡ false)
    → list_any p xs ≡ false
any_nothing p xs h =
    false_from_ne_true (list_any p xs)
    (λ e. let found = any_found p xs e in false≢true (sym (h found.0 found.1) ∙ found.2))

pub all_at : {X : Type 0} (p : X → Bool) (xs : List X) → list_all p xs ≡ true → (x : X) → Contains xs x → p x ≡ true
all_at p [] e x has = absurd (Contains-nil x has)
all_at p (y ∷ ys) e x has =
    let parts = and_parts (p y) (list_all p ys) e in
    ⊎_elim (λ same. subst (λ z. p z ≡ true) same parts.0) (λ more. all_at p ys parts.1 x more)
    (Contains-cons_cases y ys x has)

pub all_from : {X : Type 0} (p : X → Bool) (xs : List X) → ((x : X) → Contains xs x → p x ≡ true)
    → list_all p xs ≡ true
all_from p [] h = refl
all_from p (y ∷ ys) h = and_from (p y) (list_all p ys) (h y (first_in y ys))
    (all_from p ys (λ x has. h x (later_in y ys x has)))

pub all_of : {X : Type 0} (P : X → Type 0) (xs : List X) → ((x : X) → Contains xs x → P x) → All P xs
all_of P xs h k d within = h (get_or xs k d) (Contains-get_or xs k d within)

-- ---- options

pub some_without_none : {X : Type 0} (o : Option X) → is_none o ≡ false → (x : X) × (o ≡ Some x)
some_without_none None e = cc
some_without_none (Some x) e = (x, refl)

pub option_none : {X : Type 0} (o : Option X) → option_to_list o ≡ [] → o ≡ None
option_none None e = refl
option_none (Some x) e = cc

pub not_none : {X : Type 0} (o : Option X) → is_some o ≡ true → is_none o ≡ false
not_none None e = cc
not_none (Some x) e = refl

pub some_get : {X : Type 0} (o : Option X) → is_some o ≡ true → (x : X) × (o ≡ Some x)
some_get None e = cc
some_get (Some x) e = (x, refl)

pub and_then_some : {X Y : Type 0} (f : X → Option Y) (o : Option X) (y : Y) → option_and_then f o ≡ Some y
    → (x : X) × (o ≡ Some x) × (f x ≡ Some y)
and_then_some f None y e = cc
and_then_some f (Some x) y e = (x, refl, e)

pub and_then_of : {X Y : Type 0} (f : X → Option Y) (o : Option X) (x : X) (y : Y) → o ≡ Some x → f x ≡ Some y
    → option_and_then f o ≡ Some y
and_then_of f o x y is gives = ap (option_and_then f) is ∙ gives

-- ---- places

pub contains_at : {X : Type 0} (xs : List X) (i : ℕ) (x : X) → slice_get xs i ≡ Some x → Contains xs x
contains_at xs i x e = (i, slice_get_within xs i x e, get_or_from_slice_get xs i x x e)

pub place_in : {X : Type 0} (xs : List X) (x : X) → Contains xs x → (i : ℕ) × (slice_get xs i ≡ Some x)
place_in xs x has = (has.0, slice_get-get_or xs has.0 x has.1 ∙ ap Some has.2)

pub map_at : {X Y : Type 0} (f : X → Y) (xs : List X) (i : ℕ) (x : X) → slice_get xs i ≡ Some x
    → slice_get (map f xs) i ≡ Some (f x)
map_at f xs i x e = slice_get-map f xs i ∙ ap (option_map f) e

pub some_of_map : {X Y : Type 0} (f : X → Y) (o : Option X) (z : Y) → option_map f o ≡ Some z
    → (x : X) × (o ≡ Some x) × (f x ≡ z)
some_of_map f None z e = cc
some_of_map f (Some x) z e = (x, refl, cc)

pub of_map_at : {X Y : Type 0} (f : X → Y) (xs : List X) (i : ℕ) (z : Y) → slice_get (map f xs) i ≡ Some z
    → (x : X) × (slice_get xs i ≡ Some x) × (f x ≡ z)
of_map_at f xs i z e = some_of_map f (slice_get xs i) z (sym (slice_get-map f xs i) ∙ e)

in_numbered : {X : Type 0} (n : ℕ) (xs : List X) (i : ℕ) (x : X) → slice_get xs i ≡ Some x
    → Contains (enumerate_from n xs) (n + i, x)
in_numbered n [] i x e = cc
in_numbered n (y ∷ ys) zero x e =
    let same : y ≡ x = cc in
    subst (Contains ((n, y) ∷ enumerate_from (n + 1) ys)) (λ j. (let at : n ≡ n + 0 = omega arith in at j, same j))
    (first_in (n, y) (enumerate_from (n + 1) ys))
in_numbered n (y ∷ ys) (suc i) x e =
    let at : n + 1 + i ≡ n + suc i = omega arith in
    later_in (n, y) (enumerate_from (n + 1) ys) (n + suc i, x)
    (subst (λ k. Contains (enumerate_from (n + 1) ys) (k, x)) at (in_numbered (n + 1) ys i x e))

of_numbered : {X : Type 0} (n : ℕ) (xs : List X) (at : ℕ × X) → Contains (enumerate_from n xs) at
    → (i : ℕ) × (at.0 ≡ n + i) × (slice_get xs i ≡ Some at.1)
of_numbered n [] at has = absurd (Contains-nil at has)
of_numbered n (y ∷ ys) at has =
    ⊎_elim (λ same. let first : n ≡ at.0 = ap (λ (p : ℕ × _). p.0) same in (0, omega arith, ap (λ p. Some p.1) same))
    (λ more. let found = of_numbered (n + 1) ys at more in let far : at.0 ≡ n + 1 + found.0 =
    found.1 in (suc found.0, omega arith, found.2))
    (Contains-cons_cases (n, y) (enumerate_from (n + 1) ys) at has)

-- each element with its place
pub numbered : {X : Type 0} (xs : List X) (i : ℕ) (x : X) → slice_get xs i ≡ Some x
    → Contains (enumerate_from 0 xs) (i, x)
numbered xs i x e = let at : 0 + i ≡ i = omega arith in subst (λ k. Contains (enumerate_from 0 xs) (k, x)) at
    (in_numbered 0 xs i x e)

pub number_at : {X : Type 0} (xs : List X) (at : ℕ × X) → Contains (enumerate_from 0 xs) at
    → slice_get xs at.0 ≡ Some at.1
number_at xs at has =
    let found = of_numbered 0 xs at has in
    let same : at.0 ≡ found.0 = omega (arith, found.1) in ap (slice_get xs) same ∙ found.2

-- the front of a list
pub in_take : {X : Type 0} (xs : List X) (n i : ℕ) (x : X) → i < n → slice_get xs i ≡ Some x → Contains (take n xs) x
in_take xs n i x before e =
    let short : i < length (take n xs) = omega (arith, length-take n xs, slice_get_within xs i x e) in
    (i, short, get_or-take n xs i x before ∙ get_or_from_slice_get xs i x x e)

pub of_take : {X : Type 0} (xs : List X) (n : ℕ) (x : X) → Contains (take n xs) x
    → (i : ℕ) × (i < n) × (slice_get xs i ≡ Some x)
of_take xs n x has =
    let short : has.0 < length (take n xs) = has.1 in
    let before : has.0 < n = omega (arith, length-take n xs) in
    let within : has.0 < length xs = omega (arith, length-take n xs) in
    (has.0, before, slice_get-get_or xs has.0 x within ∙ ap Some (sym (get_or-take n xs has.0 x before) ∙ has.2))

-- nothing comes twice, by places
pub apart : {X : Type 0} (xs : List X) → AreDistinct xs → (i j : ℕ) (x : X) → i < j → slice_get xs i ≡ Some x
    → slice_get xs j ≡ Some x → ⊥
apart xs distinct i j x lt a b =
    distinct i j x lt (slice_get_within xs j x b)
    (get_or_from_slice_get xs i x x a ∙ sym (get_or_from_slice_get xs j x x b))

pub distinct_from : {X : Type 0} (xs : List X)
    → ((i j : ℕ) (x : X) → i < j → slice_get xs i ≡ Some x → slice_get xs j ≡ Some x → ⊥) → AreDistinct xs
distinct_from xs h i j d lt within e =
    h i j (get_or xs i d) lt (slice_get-get_or xs i d (omega arith))
    (slice_get-get_or xs j d within ∙ ap Some (sym e))

-- the numbers from one on
in_range : (a n i : ℕ) → i < n → Contains (range_with_len a n) (a + i)
in_range a zero i within = absurd (omega arith)
in_range a (suc n) zero within = let at : a ≡ a + 0 = omega arith in
    subst (Contains (a ∷ range_with_len (a + 1) n)) at (first_in a (range_with_len (a + 1) n))
in_range a (suc n) (suc i) within =
    let at : a + 1 + i ≡ a + suc i = omega arith in
    later_in a (range_with_len (a + 1) n) (a + suc i)
    (subst (Contains (range_with_len (a + 1) n)) at (in_range (a + 1) n i (omega arith)))

pub below_in : (n i : ℕ) → i < n → Contains (range_with_len 0 n) i
below_in n i within = let at : 0 + i ≡ i = omega arith in
    subst (Contains (range_with_len 0 n)) at (in_range 0 n i within)

-- ---- the first that passes

pub find_found : {X : Type 0} (p : X → Bool) (xs : List X) (x : X) → find p xs ≡ Some x → Contains xs x × (p x ≡ true)
find_found p [] x e = cc
find_found p (y ∷ ys) x e = at (p y) refl e (find_found p ys x)
  where
    at : (b : Bool) → p y ≡ b → cond b (Some y) (find p ys) ≡ Some x
        → (find p ys ≡ Some x → Contains ys x × (p x ≡ true)) → Contains (y ∷ ys) x × (p x ≡ true)
    at true is found rest = let same : y ≡ x =
        cc in (subst (Contains (y ∷ ys)) same (first_in y ys), subst (λ z. p z ≡ true) same is)
    at false is found rest = let more = rest found in (later_in y ys x more.0, more.1)

pub find_some : {X : Type 0} (p : X → Bool) (xs : List X) (x : X) → Contains xs x → p x ≡ true
    → is_some (find p xs) ≡ true
find_some p [] x has passes = absurd (Contains-nil x has)
find_some p (y ∷ ys) x has passes =
    elim (p y) as (λ b. (p y ≡ b) → is_some (cond b (Some y) (find p ys)) ≡ true) [
      | true ↦ λ is. refl
      | false ↦ λ is. ⊎_elim (λ same. absurd (false≢true (sym is ∙ ap p same ∙ passes)))
          (λ more. find_some p ys x more passes) (Contains-cons_cases y ys x has)
    ] refl

pub position_find : {X : Type 0} (p : X → Bool) (xs : List X) (i : ℕ) → position p xs ≡ Some i
    → (x : X) × (slice_get xs i ≡ Some x) × (find p xs ≡ Some x)
position_find {X} p xs i e = at (nat_lt (position_or_len p xs) (length xs)) refl e
  where
    at : (b : Bool) → nat_lt (position_or_len p xs) (length xs) ≡ b → cond b (Some (position_or_len p xs)) None
        ≡ Some i
        → (x : X) × (slice_get xs i ≡ Some x) × (find p xs ≡ Some x)
    at true is found =
        let same : position_or_len p xs ≡ i = cc in
        let within = ltb-true (position_or_len p xs) (length xs) is in
        ⊎_elim (λ there. (there.0, ap (slice_get xs) (sym same) ∙ there.2, find_at p xs ∙ there.2))
        (λ past. absurd (omega (arith, past.0))) ((slice_get_cases xs (position_or_len p xs)).1)
    at false is found = cc

pub find_position : {X : Type 0} (p : X → Bool) (xs : List X) (x : X) → find p xs ≡ Some x
    → (i : ℕ) × (position p xs ≡ Some i) × (slice_get xs i ≡ Some x)
find_position p xs x e =
    let there : slice_get xs (position_or_len p xs) ≡ Some x = sym (find_at p xs) ∙ e in
    let within = slice_get_within xs (position_or_len p xs) x there in
    (position_or_len p xs, cond-true (nat_lt (position_or_len p xs) (length xs)) _ _ (lt-ltb _ _ within), there)
