-- Lists of numbers as sets: which numbers they have, and how many they can have.
use Rattle.std.proofs.Common.{◌≡◌, ◌⊎◌, ℕ, zero, suc, subst, ◌<◌, ◌≤◌, Bool, true, false, cond, List, [], ◌∷◌, length, get_or, take, eqb, inl, inr, ⊎_elim, refl, sym, arith, ◌∙◌, length-take, get_or-take}
use Rattle.std.specs.List.{Contains, list_any, filter, IsDistinct}
use Rattle.std.specs.Cmp.{nat_eq_equiv}
use Rattle.std.proofs.lemmas.List.{get_or_default}
use Rattle.std.proofs.lemmas.List.Elements.{Contains-get_or, Contains-append_right, recursion_from_All}
use Rattle.std.proofs.lemmas.Bool.{eqb-true, ne_eqb, cases_Bool, cases_eq, false≢true, false_from_ne_true}
use Rattle.std.proofs.lemmas.Map.Views.{list_any-from_Contains, Contains-from_any}
use Rattle.std.proofs.lemmas.Map.Steps.{length-le_from_distinct_below, le-length_from_below}
use Rattle.std.proofs.lemmas.Map.Keys.{IsDistinct-from_apart, IsDistinct-cons}

pub any_from_Contains : (xs : List ℕ) (v : ℕ) → Contains xs v → list_any (eqb v) xs ≡ true
any_from_Contains xs v has = list_any-from_Contains nat_eq_equiv v xs has

pub Contains_from_any : (xs : List ℕ) (v : ℕ) → list_any (eqb v) xs ≡ true → Contains xs v
Contains_from_any xs v has = Contains-from_any (λ x y e. eqb-true x y e) v xs has

pub contains_or_not : (xs : List ℕ) (v : ℕ) → Contains xs v ⊎ (Contains xs v → ⊥)
contains_or_not xs v =
    ⊎_elim (λ e. inl (Contains_from_any xs v e)) (λ e. inr (λ has. false≢true (sym e ∙ any_from_Contains xs v has))) (cases_Bool (list_any (eqb v) xs))

pub not_any : (xs : List ℕ) (v : ℕ) → (Contains xs v → ⊥) → list_any (eqb v) xs ≡ false
not_any xs v h = false_from_ne_true _ (λ e. h (Contains_from_any xs v e))

-- the numbers of a front stand before its end
pub Contains-take_at : (xs : List ℕ) (n v : ℕ) → Contains (take n xs) v → (i : ℕ) × (i < n) × (i < length xs) × (get_or xs i 0 ≡ v)
Contains-take_at xs n v has =
    let short : has.0 < length (take n xs) = has.1 in
    let before : has.0 < n = omega (arith, length-take n xs) in
    let within : has.0 < length xs = omega (arith, length-take n xs) in
    (has.0, before, within, get_or_default xs has.0 0 v within ∙ sym (get_or-take n xs has.0 v before) ∙ has.2)

pub Contains-take_from : (xs : List ℕ) (n i : ℕ) → i < n → i < length xs → Contains (take n xs) (get_or xs i 0)
Contains-take_from xs n i before within =
    let short : i < length (take n xs) = omega (arith, length-take n xs) in
    (i, short, get_or-take n xs i _ before ∙ get_or_default xs i _ 0 within)

-- numbers of which none stands before itself differ
pub IsDistinct_from_fresh : (xs : List ℕ) → ((j : ℕ) → j < length xs → ¬ Contains (take j xs) (get_or xs j 0)) → IsDistinct eqb xs
IsDistinct_from_fresh xs fresh =
    IsDistinct-from_apart eqb xs (λ i j d before within.
    let first : i < length xs = omega arith in
    ne_eqb _ _ (λ e. fresh j within (subst (Contains (take j xs)) (get_or_default xs i 0 d first ∙ e ∙ get_or_default xs j d 0 within) (Contains-take_from xs j i before first))))

pub below_of_any : (xs : List ℕ) (n : ℕ) → ((q : ℕ) → Contains xs q → q < n) → (q : ℕ) → list_any (eqb q) xs ≡ true → q < n
below_of_any xs n below q e = below q (Contains_from_any xs q e)

-- different numbers below n are at most n
pub length_le : (xs : List ℕ) (n : ℕ) → IsDistinct eqb xs → ((q : ℕ) → Contains xs q → q < n) → length xs ≤ n
length_le xs n distinct below = length-le_from_distinct_below xs n distinct (below_of_any xs n below)

-- a number that isn't among them goes before different numbers
pub IsDistinct_before : (x : ℕ) (xs : List ℕ) → (Contains xs x → ⊥) → IsDistinct eqb xs → IsDistinct eqb (x ∷ xs)
IsDistinct_before x xs new distinct =
    IsDistinct-cons eqb x xs (recursion_from_All _ xs (λ k d within. ne_eqb _ _ (λ e. new (subst (Contains xs) (sym e) (Contains-get_or xs k d within))))) distinct

contains_at : {X : Type 0} (x : X) (xs : List X) (v : X) (k : ℕ) → k < length (x ∷ xs) → get_or (x ∷ xs) k v ≡ v → (x ≡ v) ⊎ Contains xs v
contains_at x xs v zero h e = inl e
contains_at x xs v (suc k) h e = let short : k < length xs = omega arith in inr (k, short, e)

pub Contains-cons_cases : {X : Type 0} (x : X) (xs : List X) (v : X) → Contains (x ∷ xs) v → (x ≡ v) ⊎ Contains xs v
Contains-cons_cases x xs v has = contains_at x xs v has.0 has.1 has.2

pub Contains-nil : {X : Type 0} (v : X) → Contains [] v → ⊥
Contains-nil v has = let none : has.0 < 0 = has.1 in absurd (omega arith)

pub below_cons : (x : ℕ) (xs : List ℕ) (n : ℕ) → x < n → ((q : ℕ) → Contains xs q → q < n) → (q : ℕ) → Contains (x ∷ xs) q → q < n
below_cons x xs n small below q has = ⊎_elim (λ e. subst (λ y. y < n) e small) (λ h. below q h) (Contains-cons_cases x xs q has)

-- n different numbers below n are all of them
pub all_there : (xs : List ℕ) (n : ℕ) → IsDistinct eqb xs → ((q : ℕ) → Contains xs q → q < n) → n ≤ length xs → (v : ℕ) → v < n → Contains xs v
all_there xs n distinct below long v small =
    ⊎_elim (λ has. has) (λ lacks.
    let few : length (v ∷ xs) ≤ n = length_le (v ∷ xs) n (IsDistinct_before v xs lacks distinct) (below_cons v xs n small below) in
    absurd (omega arith)) (contains_or_not xs v)

last_there : (xs : List ℕ) (n : ℕ) → ((v : ℕ) → v < n → Contains xs v) → Contains xs n → (v : ℕ) → v < suc n → Contains xs v
last_there xs n below has v small =
    ⊎_elim (λ e. subst (Contains xs) (sym e) has) (λ other. below v (omega arith)) (cases_eq v n)

all_or_missing : (xs : List ℕ) (n : ℕ) → ((v : ℕ) × (v < n) × (Contains xs v → ⊥)) ⊎ ((v : ℕ) → v < n → Contains xs v)
all_or_missing xs zero = inr (λ v small. absurd (omega arith))
all_or_missing xs (suc n) =
    ⊎_elim (λ found. inl (found.0, let small : found.0 < n = found.1 in omega arith, found.2))
    (λ below. ⊎_elim (λ has. inr (last_there xs n below has)) (λ lacks. inl (n, omega arith, lacks)) (contains_or_not xs n))
    (all_or_missing xs n)

-- fewer numbers than n lack one below n
pub missing_one : (xs : List ℕ) (n : ℕ) → length xs < n → (v : ℕ) × (v < n) × (Contains xs v → ⊥)
missing_one xs n short =
    ⊎_elim (λ found. found) (λ below.
    let long : n ≤ length xs = le-length_from_below xs n (λ q small. any_from_Contains xs q (below q small)) in
    absurd (omega arith)) (all_or_missing xs n)

pub IsDistinct_nil : IsDistinct eqb []
unfolding IsDistinct
IsDistinct_nil = tt

Contains-filter_cons : {X : Type 0} (b : Bool) (y : X) (xs rest : List X) (x : X) → (Contains rest x → Contains xs x) → Contains (cond b (y ∷ rest) rest) x → ((b ≡ true) × (y ≡ x)) ⊎ Contains rest x
Contains-filter_cons true y xs rest x h has = ⊎_elim (λ e. inl (refl, e)) inr (Contains-cons_cases y rest x has)
Contains-filter_cons false y xs rest x h has = inr has

-- what a filter keeps is there, and passes
pub Contains-filter : {X : Type 0} (p : X → Bool) (xs : List X) (x : X) → Contains (filter p xs) x → Contains xs x × (p x ≡ true)
Contains-filter p [] x has = absurd (Contains-nil x has)
Contains-filter p (y ∷ xs) x has =
    ⊎_elim (λ e. ((0, omega arith, e.1), subst (λ z. p z ≡ true) e.1 e.0))
    (λ other. let more = Contains-filter p xs x other in (Contains-append_right (y ∷ []) xs x more.0, more.1))
    (Contains-filter_cons (p y) y xs (filter p xs) x (λ h. (Contains-filter p xs x h).0) has)

kept_cons : {X : Type 0} (b : Bool) (y : X) (rest : List X) (x : X) → Contains rest x → Contains (cond b (y ∷ rest) rest) x
kept_cons true y rest x has = Contains-append_right (y ∷ []) rest x has
kept_cons false y rest x has = has

kept_first : {X : Type 0} (b : Bool) (y : X) (rest : List X) → b ≡ true → Contains (cond b (y ∷ rest) rest) y
kept_first true y rest e = (0, omega arith, refl)
kept_first false y rest e = absurd (false≢true e)

-- what is there and passes is kept
pub Contains-filter_from : {X : Type 0} (p : X → Bool) (xs : List X) (x : X) → Contains xs x → p x ≡ true → Contains (filter p xs) x
Contains-filter_from p [] x has passes = absurd (Contains-nil x has)
Contains-filter_from p (y ∷ xs) x has passes =
    ⊎_elim (λ e. subst (Contains (filter p (y ∷ xs))) e (kept_first (p y) y (filter p xs) (subst (λ z. p z ≡ true) (sym e) passes)))
    (λ other. kept_cons (p y) y (filter p xs) x (Contains-filter_from p xs x other passes))
    (Contains-cons_cases y xs x has)
