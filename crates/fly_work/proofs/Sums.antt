-- Sums over lists whose elements are less or more, counts, and elements with their numbers.
use Rattle.std.proofs.Common.{◌≡◌, ℕ, zero, suc, ◌+◌, ◌*◌, ◌<◌, ◌≤◌, Bool, true, false, cond, List, [], ◌∷◌, length, set, sum_by, count_by, Contains, Some, option_map, unwrap_or, refl, sym, ap, ◌∙◌, subst, arith, ⊎_elim}
use Rattle.std.specs.List.{slice_get, enumerate_from, range_with_len}
use Rattle.std.proofs.lemmas.Bool.{true≢false}
use Rattle.std.proofs.lemmas.List.FromFn.{length-range_with_len, get_or-range_with_len}
use Rattle.std.proofs.lemmas.List.Sums.{sum_by-cons, sum_by-set, count_by-le-length}
use Rattle.std.proofs.lemmas.Option.{slice_get-get_or, slice_get_within, get_or_from_slice_get}
use Rattle.fly_cast.proofs.Options.{map-some}
use Rattle.fly_graph.proofs.Members.{Contains-nil, Contains-cons_cases}
use Rattle.fly_state.proofs.Lists.{first_in, later_in, enumerated-at}
use Rattle.fly_world.proofs.TypeLemmas.{contained}

-- ---- sums

module _ {X : Type 0} (f g : X → ℕ) where
  -- no element is less
  pub sums-le : (xs : List X) → ((x : X) → Contains xs x → f x ≤ g x) → sum_by f xs ≤ sum_by g xs
  sums-le [] le = omega arith
  sums-le (x ∷ xs) le =
      let here = le x (first_in x xs) in
      let rest = sums-le xs (λ y has. le y (later_in x xs y has)) in
      omega (arith, here, rest, sum_by-cons f x xs, sum_by-cons g x xs)

  -- no element is less, and one is more
  pub sums-lt : (xs : List X) (y : X) → ((x : X) → Contains xs x → f x ≤ g x) → Contains xs y → f y < g y
      → sum_by f xs < sum_by g xs
  sums-lt [] y le has more = absurd (Contains-nil y has)
  sums-lt (x ∷ xs) y le has more =
      let here = le x (first_in x xs) in
      let rest = sums-le xs (λ z there. le z (later_in x xs z there)) in
      ⊎_elim
      (λ same.
      let this : f x < g x = subst (λ z. f z < g z) (sym same) more in
      omega (arith, this, rest, sum_by-cons f x xs, sum_by-cons g x xs))
      (λ later.
      let those = sums-lt xs y (λ z there. le z (later_in x xs z there)) later more in
      omega (arith, here, those, sum_by-cons f x xs, sum_by-cons g x xs))
      (Contains-cons_cases x xs y has)

  pub sums-same : (xs : List X) → ((x : X) → Contains xs x → f x ≡ g x) → sum_by f xs ≡ sum_by g xs
  sums-same [] same = refl
  sums-same (x ∷ xs) same =
      let here = same x (first_in x xs) in
      let rest = sums-same xs (λ y has. same y (later_in x xs y has)) in
      omega (arith, here, rest, sum_by-cons f x xs, sum_by-cons g x xs)

module _ {X : Type 0} (f : X → ℕ) where
  -- each element is the same number
  pub sum-each : (n : ℕ) (xs : List X) → ((x : X) → Contains xs x → f x ≡ n) → sum_by f xs ≡ length xs * n
  sum-each n [] same = omega arith
  sum-each n (x ∷ xs) same =
      let here = same x (first_in x xs) in
      let rest = sum-each n xs (λ y has. same y (later_in x xs y has)) in
      omega (arith, here, rest, sum_by-cons f x xs)

  -- another element in the place of one
  pub set-le : (xs : List X) (i : ℕ) (x y : X) → slice_get xs i ≡ Some x → f x ≤ f y
      → sum_by f xs ≤ sum_by f (set xs i y)
  set-le xs i x y there le =
      let old = ap f (get_or_from_slice_get xs i x x there) in
      omega (arith, le, old, sum_by-set f xs i y x (slice_get_within xs i x there))

  pub set-lt : (xs : List X) (i : ℕ) (x y : X) → slice_get xs i ≡ Some x → f x < f y
      → sum_by f xs < sum_by f (set xs i y)
  set-lt xs i x y there lt =
      let old = ap f (get_or_from_slice_get xs i x x there) in
      omega (arith, lt, old, sum_by-set f xs i y x (slice_get_within xs i x there))

-- ---- counts

module _ {X : Type 0} (p q : X → Bool) where
  one-le : (a b : Bool) → (a ≡ true → b ≡ true) → cond a 1 0 ≤ cond b 1 0
  one-le true true more = omega arith
  one-le true false more = absurd (true≢false (sym (more refl)))
  one-le false b more = omega arith

  one-lt : (a b : Bool) → a ≡ false → b ≡ true → cond a 1 0 < cond b 1 0
  one-lt a b none some = rw (none, some) (omega arith)

  -- what passes the one test passes the other
  pub counts-le : (xs : List X) → ((x : X) → p x ≡ true → q x ≡ true) → count_by p xs ≤ count_by q xs
  counts-le xs more = sums-le (λ x. cond (p x) 1 0) (λ x. cond (q x) 1 0) xs (λ x has. one-le (p x) (q x) (more x))

  -- and one passes the other alone
  pub counts-lt : (xs : List X) (y : X) → ((x : X) → p x ≡ true → q x ≡ true) → Contains xs y → p y ≡ false
      → q y ≡ true → count_by p xs < count_by q xs
  counts-lt xs y more has none some =
      sums-lt (λ x. cond (p x) 1 0) (λ x. cond (q x) 1 0) xs y (λ x there. one-le (p x) (q x) (more x)) has
      (one-lt (p y) (q y) none some)

pub count-le : (p : ℕ → Bool) (n : ℕ) → count_by p (range_with_len 0 n) ≤ n
count-le p n = omega (arith, count_by-le-length p (range_with_len 0 n), length-range_with_len 0 n)

pub in-range : (n k : ℕ) → k < n → Contains (range_with_len 0 n) k
in-range n k small =
    (k, omega (arith, small, length-range_with_len 0 n), get_or-range_with_len 0 n k k small ∙ omega arith)

-- ---- numbers

-- what stands among numbered elements stands at its number
pub numbered-at : {X : Type 0} (xs : List X) (at : ℕ × X) → Contains (enumerate_from 0 xs) at
    → slice_get xs at.0 ≡ Some at.1
numbered-at xs at has =
    let there = slice_get-get_or (enumerate_from 0 xs) has.0 at has.1 ∙ ap Some has.2 in
    let one = map-some (λ x. (0 + has.0, x)) (slice_get xs has.0) at (sym (enumerated-at 0 xs has.0) ∙ there) in
    let number : at.0 ≡ has.0 = ap (λ (a : ℕ × _). a.0) one.2 ∙ omega arith in
    ap (slice_get xs) number ∙ one.1 ∙ ap Some (sym (ap (λ (a : ℕ × _). a.1) one.2))

pub at-number : {X : Type 0} (xs : List X) (i : ℕ) (x : X) → slice_get xs i ≡ Some x
    → Contains (enumerate_from 0 xs) (i, x)
at-number xs i x there =
    let same : 0 + i ≡ i = omega arith in
    contained (enumerate_from 0 xs) i (i, x)
    (enumerated-at 0 xs i ∙ ap (λ k. option_map (λ y. (k, y)) (slice_get xs i)) same
    ∙ ap (option_map (λ y. (i, y))) there)

-- ---- one element changed

-- what holds of an element, or of what is put in its place
pub set-at : {X : Type 0} (P : X → Type 0) (xs : List X) (i j : ℕ) (y d : X) → P (unwrap_or (slice_get xs j) d)
    → (j ≡ i → P y) → P (unwrap_or (slice_get (set xs i y) j) d)
set-at P [] i j y d old new = old
set-at P (x ∷ xs) zero zero y d old new = new refl
set-at P (x ∷ xs) zero (suc j) y d old new = old
set-at P (x ∷ xs) (suc i) zero y d old new = old
set-at P (x ∷ xs) (suc i) (suc j) y d old new = set-at P xs i j y d old (λ same. new (ap suc same))
