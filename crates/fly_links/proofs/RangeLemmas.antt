-- What a range has, and the last of the places that pass a test.
use Rattle.std.proofs.Common.{◌≡◌, ℕ, zero, suc, ◌+◌, ◌-◌, ◌<◌, ◌≤◌, Bool, true, false, cond, ◌||◌, ◌&&◌, eqb, List, [], ◌∷◌, ◌++◌, filter, length, refl, sym, ◌∙◌, ap, ap₂, ⊎_elim, arith}
use Rattle.std.specs.List.{range_with_len, list_any, flat_map}
use Rattle.std.proofs.lemmas.Bool.{cases_eq, cases_lt, cases_Bool, eqb-true, eq-eqb, or_right, or_cases, true≢false, false≢true}
use Rattle.std.proofs.lemmas.List.{append-nil, drop_at, length_push}
use Rattle.std.proofs.lemmas.List.Folds.{list_any-append}
use Rattle.fly_links.specs.Rows.{has_place}
use Rattle.fly_links.specs.Around.{last_alone}
use Rattle.fly_links.proofs.RowLemmas.{filter_range_more, or_false}

-- ---- what a range has

pub in_range : (a n v : ℕ) → a ≤ v → v < a + n → has_place (range_with_len a n) v ≡ true
in_range a zero v from to = absurd (omega arith)
in_range a (suc n) v from to =
    ⊎_elim (λ here. ap (λ b. b || has_place (range_with_len (a + 1) n) v) (eq-eqb a v here))
    (λ apart. or_right (eqb a v) (has_place (range_with_len (a + 1) n) v) (in_range (a + 1) n v (omega arith) (omega arith)))
    (cases_eq a v)

pub from_range : (a n v : ℕ) → has_place (range_with_len a n) v ≡ true → (a ≤ v) × (v < a + n)
from_range a zero v e = absurd (false≢true e)
from_range a (suc n) v e =
    ⊎_elim (λ here. let same : a ≡ v = eqb-true a v here in (omega (arith, same), omega (arith, same)))
    (λ later. let rest = from_range (a + 1) n v later in (omega (arith, rest.0), omega (arith, rest.1)))
    (or_cases (eqb a v) (has_place (range_with_len (a + 1) n) v) e)

-- ---- tests over lists

pub any_flat : {X Y : Type 0} (p : Y → Bool) (f : X → List Y) (xs : List X) → list_any p (flat_map f xs) ≡ list_any (λ x. list_any p (f x)) xs
any_flat p f [] = refl
any_flat p f (x ∷ xs) = list_any-append p (f x) (flat_map f xs) ∙ ap (λ b. list_any p (f x) || b) (any_flat p f xs)

one_filtered : {X : Type 0} (q : X → Bool) (b : Bool) (x : X) (ys : List X) (rest : Bool) → list_any q ys ≡ rest → list_any q (cond b (x ∷ ys) ys) ≡ ((b && q x) || rest)
one_filtered q true x ys rest e = ap (λ r. q x || r) e
one_filtered q false x ys rest e = e

pub any_filtered : {X : Type 0} (q p : X → Bool) (xs : List X) → list_any q (filter p xs) ≡ list_any (λ x. p x && q x) xs
any_filtered q p [] = refl
any_filtered q p (x ∷ xs) = one_filtered q (p x) x (filter p xs) (list_any (λ y. p y && q y) xs) (any_filtered q p xs)

pub any_alike : (p q : ℕ → Bool) (a n : ℕ) → ((v : ℕ) → a ≤ v → v < a + n → p v ≡ q v) → list_any p (range_with_len a n) ≡ list_any q (range_with_len a n)
any_alike p q a zero same = refl
any_alike p q a (suc n) same = ap₂ (λ b c. b || c) (same a (omega arith) (omega arith)) (any_alike p q (a + 1) n (λ v from to. same v (omega arith) (omega arith)))

pub any_in_range : (p : ℕ → Bool) (a n v : ℕ) → a ≤ v → v < a + n → p v ≡ true → list_any p (range_with_len a n) ≡ true
any_in_range p a zero v from to e = absurd (omega arith)
any_in_range p a (suc n) v from to e =
    ⊎_elim (λ here. ap (λ b. b || list_any p (range_with_len (a + 1) n)) (ap p here ∙ e))
    (λ apart. or_right (p a) (list_any p (range_with_len (a + 1) n)) (any_in_range p (a + 1) n v (omega arith) (omega arith) e))
    (cases_eq a v)

pub any_from_range : (p : ℕ → Bool) (a n : ℕ) → list_any p (range_with_len a n) ≡ true → (v : ℕ) × (a ≤ v) × (v < a + n) × (p v ≡ true)
any_from_range p a zero e = absurd (false≢true e)
any_from_range p a (suc n) e =
    ⊎_elim (λ here. (a, omega arith, omega arith, here))
    (λ later. let rest = any_from_range p (a + 1) n later in (rest.0, omega (arith, rest.1), omega (arith, rest.2), rest.3))
    (or_cases (p a) (list_any p (range_with_len (a + 1) n)) e)

-- ---- the last place that passes

pub record IsLast (p : ℕ → Bool) (n v : ℕ) : Type 0 where
  pub passes : p v ≡ true
  pub below : v < n
  pub none_later : (t : ℕ) → v < t → t < n → p t ≡ false

one_more : (p : ℕ → Bool) (n : ℕ) → filter p (range_with_len 0 (suc n)) ≡ filter p (range_with_len 0 n) ++ cond (p n) (n ∷ []) []
one_more p n = let one : suc n ≡ n + 1 = omega arith in ap (λ m. filter p (range_with_len 0 m)) one ∙ filter_range_more p n

last_pushed : (row : List ℕ) (n : ℕ) → last_alone (row ++ n ∷ []) ≡ n ∷ []
last_pushed row n = drop_at row (n ∷ []) (length (row ++ n ∷ []) - 1) (omega (arith, length_push row n))

with_pushed : (p : ℕ → Bool) (n : ℕ) → p n ≡ true → last_alone (filter p (range_with_len 0 (suc n))) ≡ n ∷ []
with_pushed p n e =
    ap last_alone (one_more p n ∙ ap (λ b. filter p (range_with_len 0 n) ++ cond b (n ∷ []) []) e) ∙ last_pushed (filter p (range_with_len 0 n)) n

with_passed : (p : ℕ → Bool) (n : ℕ) → p n ≡ false → last_alone (filter p (range_with_len 0 (suc n))) ≡ last_alone (filter p (range_with_len 0 n))
with_passed p n e =
    ap last_alone (one_more p n ∙ ap (λ b. filter p (range_with_len 0 n) ++ cond b (n ∷ []) []) e ∙ append-nil (filter p (range_with_len 0 n)))

pub last_from : (p : ℕ → Bool) (n v : ℕ) → has_place (last_alone (filter p (range_with_len 0 n))) v ≡ true → IsLast p n v
last_from p zero v e = absurd (false≢true e)
last_from p (suc n) v e =
    ⊎_elim (λ pass.
    let here : n ≡ v = eqb-true n v (sym (or_false (eqb n v)) ∙ sym (ap (λ r. has_place r v) (with_pushed p n pass)) ∙ e) in
    record { passes = ap p (sym here) ∙ pass; below = omega (arith, here); none_later = λ t lt gt. absurd (omega (arith, here, lt, gt)) })
    (λ pass.
    let rest = last_from p n v (sym (ap (λ r. has_place r v) (with_passed p n pass)) ∙ e) in
    record {
      passes = rest.passes;
      below = omega (arith, rest.below);
      none_later = λ t lt gt. ⊎_elim (λ same. ap p same ∙ pass) (λ apart. rest.none_later t lt (omega (arith, gt, apart))) (cases_eq t n);
    })
    (cases_Bool (p n))

pub last_is : (p : ℕ → Bool) (n v : ℕ) → IsLast p n v → has_place (last_alone (filter p (range_with_len 0 n))) v ≡ true
last_is p zero v is = absurd (let lt : v < 0 = is.below in omega (arith, lt))
last_is p (suc n) v is =
    ⊎_elim (λ pass.
    ⊎_elim (λ before. absurd (true≢false (sym pass ∙ is.none_later n before (omega arith))))
    (λ past. let same : n ≡ v = omega (arith, past, is.below) in
    ap (λ r. has_place r v) (with_pushed p n pass) ∙ ap (λ b. b || false) (eq-eqb n v same))
    (cases_lt v n))
    (λ pass.
    ⊎_elim (λ same. absurd (true≢false (sym is.passes ∙ ap p same ∙ pass)))
    (λ apart. ap (λ r. has_place r v) (with_passed p n pass)
    ∙ last_is p n v (record { passes = is.passes; below = omega (arith, is.below, apart); none_later = λ t lt gt. is.none_later t lt (omega (arith, gt)) }))
    (cases_eq v n))
    (cases_Bool (p n))
