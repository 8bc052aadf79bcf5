-- Sums over the views of all seats, and beginnings of one list.
use Rattle.std.proofs.Common.{◌≡◌, ℕ, zero, suc, ◌+◌, ◌<◌, ◌≤◌, ◌≢◌, List, [], ◌∷◌, ◌++◌, length, set, sum_by, cond, eqb, refl, sym, ap, ◌∙◌, arith, append_assoc, slice_get, Some, length-append}
use Rattle.std.proofs.lemmas.List.Sums.{sum_by-cons}
use Rattle.std.proofs.lemmas.List.{get_or_append_left}
use Rattle.std.proofs.lemmas.Bool.Decides.{nat_tests}
use Rattle.std.proofs.lemmas.Option.{slice_get_within, slice_get-get_or, get_or_from_slice_get}
use mathlib.Core.Option.{some, some-injective, some-ne-none}
use lib.ListN.{get_elem?}
use Rattle.fly_desk.specs.Annals.{StartsWith, one_within, HasCalls}

module _ {V : Type 0} where
  -- the sum after a change of one view
  pub sum_set : (f : V → ℕ) (vs : List V) (i : ℕ) (v w : V) → get_elem? vs i ≡ some v → sum_by f (set vs i w) + f v ≡ sum_by f vs + f w
  sum_set f [] i v w at = absurd (some-ne-none v (sym at))
  sum_set f (x ∷ xs) zero v w at = omega (arith, sum_by-cons f w xs, sum_by-cons f x xs, ap f (some-injective x v at))
  sum_set f (x ∷ xs) (suc i) v w at = omega (arith, sum_by-cons f x (set xs i w), sum_by-cons f x xs, sum_set f xs i v w at)

  pub sum_term : (f : V → ℕ) (vs : List V) (i : ℕ) (v : V) → get_elem? vs i ≡ some v → f v ≤ sum_by f vs
  sum_term f [] i v at = absurd (some-ne-none v (sym at))
  sum_term f (x ∷ xs) zero v at = omega (arith, sum_by-cons f x xs, ap f (some-injective x v at))
  sum_term f (x ∷ xs) (suc i) v at = omega (arith, sum_by-cons f x xs, sum_term f xs i v at)

  -- two views of different seats
  pub sum_two : (f : V → ℕ) (vs : List V) (i j : ℕ) (v w : V) → i ≢ j → get_elem? vs i ≡ some v → get_elem? vs j ≡ some w → f v + f w ≤ sum_by f vs
  sum_two f [] i j v w apart at there = absurd (some-ne-none v (sym at))
  sum_two f (x ∷ xs) zero zero v w apart at there = absurd (apart refl)
  sum_two f (x ∷ xs) zero (suc j) v w apart at there = omega (arith, sum_by-cons f x xs, ap f (some-injective x v at), sum_term f xs j w there)
  sum_two f (x ∷ xs) (suc i) zero v w apart at there = omega (arith, sum_by-cons f x xs, ap f (some-injective x w there), sum_term f xs i v at)
  sum_two f (x ∷ xs) (suc i) (suc j) v w apart at there = omega (arith, sum_by-cons f x xs, sum_two f xs i j v w (λ e. apart (ap suc e)) at there)

  pub sum_mono : (f g : V → ℕ) (vs : List V) → ((i : ℕ) (v : V) → get_elem? vs i ≡ some v → f v ≤ g v) → sum_by f vs ≤ sum_by g vs
  sum_mono f g [] below = omega arith
  sum_mono f g (x ∷ xs) below = omega (arith, sum_by-cons f x xs, sum_by-cons g x xs, below 0 x refl, sum_mono f g xs (λ i v at. below (suc i) v at))

  pub sum_less : (f g : V → ℕ) (vs : List V) (i : ℕ) (v : V) → get_elem? vs i ≡ some v → f v < g v → ((j : ℕ) (w : V) → get_elem? vs j ≡ some w → f w ≤ g w) → sum_by f vs < sum_by g vs
  sum_less f g [] i v at less below = absurd (some-ne-none v (sym at))
  sum_less f g (x ∷ xs) zero v at less below =
      omega (arith, sum_by-cons f x xs, sum_by-cons g x xs, ap f (some-injective x v at), ap g (some-injective x v at), sum_mono f g xs (λ j w there. below (suc j) w there))
  sum_less f g (x ∷ xs) (suc i) v at less below = omega (arith, sum_by-cons f x xs, sum_by-cons g x xs, below 0 x refl, sum_less f g xs i v at less (λ j w there. below (suc j) w there))

  pub sum_add : (f g : V → ℕ) (vs : List V) → sum_by (λ v. f v + g v) vs ≡ sum_by f vs + sum_by g vs
  sum_add f g [] = refl
  sum_add f g (x ∷ xs) = omega (arith, sum_by-cons (λ v. f v + g v) x xs, sum_by-cons f x xs, sum_by-cons g x xs, sum_add f g xs)

  pub here_after : (vs : List V) (i : ℕ) (v w : V) → get_elem? vs i ≡ some v → get_elem? (set vs i w) i ≡ some w
  here_after [] i v w at = absurd (some-ne-none v (sym at))
  here_after (x ∷ xs) zero v w at = refl
  here_after (x ∷ xs) (suc i) v w at = here_after xs i v w at

-- of two beginnings of one list the shorter begins the longer
pub longer_begins : {E : Type 0} (log xs ys : List E) → StartsWith log xs → StartsWith log ys → length xs ≤ length ys → StartsWith ys xs
longer_begins log [] ys p q le = (ys, refl)
longer_begins log (x ∷ xs) [] p q le = absurd (omega arith)
longer_begins [] (x ∷ xs) (y ∷ ys) p q le = absurd (cc p.1)
longer_begins (z ∷ log) (x ∷ xs) (y ∷ ys) p q le =
    let p' : log ≡ xs ++ p.0 = cc p.1 in
    let q' : log ≡ ys ++ q.0 = cc q.1 in
    let same : x ≡ y = cc (p.1, q.1) in
    let r = longer_begins log xs ys (p.0, p') (q.0, q') (omega arith) in
    (r.0, λ i. sym same i ∷ r.1 i)

pub begins_longer : {E : Type 0} (log xs : List E) (e : E) → StartsWith log xs → StartsWith (log ++ e ∷ []) xs
begins_longer log xs e p = (p.0 ++ e ∷ [], ap (λ l. l ++ e ∷ []) p.1 ∙ append_assoc xs p.0 (e ∷ []))

pub get_longer : {E : Type 0} (log more : List E) (p : ℕ) (x : E) → slice_get log p ≡ Some x → slice_get (log ++ more) p ≡ Some x
get_longer log more p x at = let within = slice_get_within log p x at in
    slice_get-get_or (log ++ more) p x (omega (arith, length-append log more)) ∙ ap (λ y. Some y) (get_or_append_left log more x p within ∙ get_or_from_slice_get log p x x at)

pub stand_longer : {E : Type 0} (log more : List E) (own : List (ℕ × E)) → HasCalls log own → HasCalls (log ++ more) own
stand_longer log more own stand k d within = get_longer log more _ _ (stand k d within)

-- tests of numbers
pub within_inside : (a b x : ℕ) → a ≤ x → x < b → one_within a b x ≡ 1
within_inside a b x low high = grind (arith, nat_tests)

pub within_none : (a x : ℕ) → one_within a a x ≡ 0
within_none a x = grind (arith, nat_tests)

pub within_next : (a b x : ℕ) → a ≤ b → one_within a b x + cond (eqb b x) 1 0 ≡ one_within a (b + 1) x
within_next a b x le = grind (arith, nat_tests)

pub within_less : (a b x : ℕ) → a < b → one_within (a + 1) b x + cond (eqb a x) 1 0 ≡ one_within a b x
within_less a b x less = grind (arith, nat_tests)

pub within_some : (a b x : ℕ) → 0 < one_within a b x → (a ≤ x) × (x < b)
within_some a b x some_of = (grind (arith, nat_tests), grind (arith, nat_tests))

pub at_most_once : (a b x : ℕ) → one_within a b x ≤ 1
at_most_once a b x = grind (arith, nat_tests)

pub sum_nothing : {V : Type 0} (f : V → ℕ) (vs : List V) → ((j : ℕ) (u : V) → get_elem? vs j ≡ some u → f u ≡ 0) → sum_by f vs ≡ 0
sum_nothing f [] all_none = refl
sum_nothing f (x ∷ xs) all_none = omega (arith, sum_by-cons f x xs, all_none 0 x refl, sum_nothing f xs (λ j u there. all_none (suc j) u there))

-- where the others add nothing, the sum is that of one view
pub sum_only : {V : Type 0} (f : V → ℕ) (vs : List V) (i : ℕ) (v : V) → get_elem? vs i ≡ some v → ((j : ℕ) (u : V) → j ≢ i → get_elem? vs j ≡ some u → f u ≡ 0) → sum_by f vs ≡ f v
sum_only f [] i v at none_other = absurd (some-ne-none v (sym at))
sum_only f (x ∷ xs) zero v at none_other =
    omega (arith, sum_by-cons f x xs, ap f (some-injective x v at), sum_nothing f xs (λ j u there. none_other (suc j) u (λ e. omega arith) there))
sum_only f (x ∷ xs) (suc i) v at none_other =
    omega (arith, sum_by-cons f x xs, none_other 0 x (λ e. omega arith) refl, sum_only f xs i v at (λ j u apart there. none_other (suc j) u (λ e. apart (omega arith)) there))
