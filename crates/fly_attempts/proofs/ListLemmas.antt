-- Lists by their places: after a change at one place, and the first place at which a test passes.
use Rattle.std.proofs.Common.{◌≡◌, ◌≢◌, ◌⊎◌, ℕ, zero, suc, ◌+◌, ◌<◌, ◌≤◌, Bool, true, false, cond, not, ltb, List, [], ◌∷◌, ◌++◌, length, set, Option, Some, None, refl, sym, ◌∙◌, ap, subst, inl, inr, ⊎_elim, find, position, All, arith}
use Rattle.std.specs.List.{slice_get, position_or_len, enumerate_from}
use Rattle.std.specs.Option.{option_or, option_map, option_and_then, IsSome}
use Rattle.std.proofs.lemmas.Bool.{false≢true, cases_lt, cases_Bool, lt-ltb, le-ltb, cond-true, cond-false}
use Rattle.std.proofs.lemmas.List.Elements.{All-nil, All-cons, All-head, All-tail}
use Rattle.std.proofs.lemmas.List.Folds.{find_at}
use Rattle.std.proofs.lemmas.List.Sums.{fails_before_first}
use Rattle.std.proofs.lemmas.Option.{slice_get_past, slice_get_within, get_or_from_slice_get, same_Some, none-some}

-- ---- one more at the end, and another at a place

module _ {X : Type 0} where
  pub get_before : (xs : List X) (y : X) (i : ℕ) → i < length xs → slice_get (xs ++ y ∷ []) i ≡ slice_get xs i
  get_before [] y i within = absurd (omega arith)
  get_before (x ∷ xs) y zero within = refl
  get_before (x ∷ xs) y (suc i) within = get_before xs y i (omega arith)

  pub get_last : (xs : List X) (y : X) → slice_get (xs ++ y ∷ []) (length xs) ≡ Some y
  get_last [] y = refl
  get_last (x ∷ xs) y = get_last xs y

  pub get_pushed : (xs : List X) (y : X) (i : ℕ) (x : X) → slice_get (xs ++ y ∷ []) i ≡ Some x
      → (slice_get xs i ≡ Some x) ⊎ ((i ≡ length xs) × (y ≡ x))
  get_pushed [] y zero x h = inr (refl, same_Some y x h)
  get_pushed [] y (suc i) x h = absurd (none-some x h)
  get_pushed (z ∷ xs) y zero x h = inl h
  get_pushed (z ∷ xs) y (suc i) x h = ⊎_elim inl (λ p. inr (ap suc p.0, p.1)) (get_pushed xs y i x h)

  pub get_within : (xs : List X) (i : ℕ) → i < length xs → (x : X) × (slice_get xs i ≡ Some x)
  get_within [] i within = absurd (omega arith)
  get_within (x ∷ xs) zero within = (x, refl)
  get_within (x ∷ xs) (suc i) within = get_within xs i (omega arith)

  pub get_set_here : (xs : List X) (i : ℕ) (y : X) → i < length xs → slice_get (set xs i y) i ≡ Some y
  get_set_here [] i y within = absurd (omega arith)
  get_set_here (x ∷ xs) zero y within = refl
  get_set_here (x ∷ xs) (suc i) y within = get_set_here xs i y (omega arith)

  pub get_set_other : (xs : List X) (i j : ℕ) (y : X) → j ≢ i → slice_get (set xs i y) j ≡ slice_get xs j
  get_set_other [] i j y apart = refl
  get_set_other (x ∷ xs) zero zero y apart = absurd (apart refl)
  get_set_other (x ∷ xs) zero (suc j) y apart = refl
  get_set_other (x ∷ xs) (suc i) zero y apart = refl
  get_set_other (x ∷ xs) (suc i) (suc j) y apart = get_set_other xs i j y (λ e. apart (ap suc e))

  -- what is there is within
  pub some_within : (xs : List X) (i : ℕ) → IsSome (slice_get xs i) → i < length xs
  some_within [] i h = absurd (false≢true h)
  some_within (x ∷ xs) zero h = omega arith
  some_within (x ∷ xs) (suc i) h = (let lt : i < length xs = some_within xs i h in omega arith)

-- ---- the first place at which a test passes

one_more : (k n : ℕ) → cond (ltb (1 + k) (suc n)) (Some (1 + k)) None ≡ option_map suc (cond (ltb k n) (Some k) None)
one_more k n =
    ⊎_elim (λ lt. cond-true _ (Some (1 + k)) None (lt-ltb (1 + k) (suc n) (omega arith))
    ∙ (ap Some (omega arith) ∙ ap (option_map suc) (sym (cond-true _ (Some k) None (lt-ltb k n lt)))))
    (λ ge. cond-false _ (Some (1 + k)) None (le-ltb (1 + k) (suc n) (omega arith))
    ∙ ap (option_map suc) (sym (cond-false _ (Some k) None (le-ltb k n ge))))
    (cases_lt k n)

first_case : (b : Bool) (k n : ℕ) → cond (ltb (cond (not b) (1 + k) 0) (suc n)) (Some (cond (not b) (1 + k) 0)) None
    ≡ cond b (Some 0) (option_map suc (cond (ltb k n) (Some k) None))
first_case true k n = cond-true _ (Some 0) None (lt-ltb 0 (suc n) (omega arith))
first_case false k n = one_more k n

alone : (b : Bool) → cond b (Some 0) (option_map suc None) ≡ option_or None (cond b (Some 0) None)
alone true = refl
alone false = refl

later : (b c : Bool) (o : Option ℕ) (n : ℕ) → cond b (Some 0) (option_map suc (option_or o (cond c (Some n) None)))
    ≡ option_or (cond b (Some 0) (option_map suc o)) (cond c (Some (suc n)) None)
later true c o n = refl
later false c (Some i) n = refl
later false true None n = refl
later false false None n = refl

or_none : (o : Option ℕ) → option_or o None ≡ o
or_none None = refl
or_none (Some i) = refl

module _ {X : Type 0} (p : X → Bool) where
  -- at the first element, or behind it
  position_cons : (x : X) (xs : List X) → position p (x ∷ xs) ≡ cond (p x) (Some 0) (option_map suc (position p xs))
  position_cons x xs = first_case (p x) (position_or_len p xs) (length xs)

  -- behind one more element at the end
  position_push : (xs : List X) (y : X) → position p (xs ++ y ∷ [])
      ≡ option_or (position p xs) (cond (p y) (Some (length xs)) None)
  position_push [] y = position_cons y [] ∙ alone (p y)
  position_push (x ∷ xs) y =
      position_cons x (xs ++ y ∷ [])
      ∙ ap (λ o. cond (p x) (Some 0) (option_map suc o)) (position_push xs y)
      ∙ later (p x) (p y) (position p xs) (length xs)
      ∙ ap (λ o. option_or o (cond (p y) (Some (suc (length xs))) None)) (sym (position_cons x xs))

  -- the first that passes stands at the end
  pub position_last : (xs : List X) (y : X) → position p xs ≡ None → p y ≡ true → position p (xs ++ y ∷ [])
      ≡ Some (length xs)
  position_last xs y none passes =
      position_push xs y
      ∙ ap (λ o. option_or o (cond (p y) (Some (length xs)) None)) none
      ∙ ap (λ b. option_or None (cond b (Some (length xs)) None)) passes

  -- what fails moves no place
  pub position_kept : (xs : List X) (y : X) → p y ≡ false → position p (xs ++ y ∷ []) ≡ position p xs
  position_kept xs y fails =
      position_push xs y
      ∙ ap (λ b. option_or (position p xs) (cond b (Some (length xs)) None)) fails
      ∙ or_none (position p xs)

  -- where there is no place, each element fails
  pub fails_all : (xs : List X) (i : ℕ) (x : X) → position p xs ≡ None → slice_get xs i ≡ Some x → p x ≡ false
  fails_all xs i x none here =
      ⊎_elim (λ lt. absurd (none-some (position_or_len p xs)
      (sym none ∙ cond-true _ (Some (position_or_len p xs)) None (lt-ltb _ _ lt))))
      (λ ge. ap p (sym (get_or_from_slice_get xs i x x here))
      ∙ fails_before_first p xs i x (omega (arith, ge, slice_get_within xs i x here)))
      (cases_lt (position_or_len p xs) (length xs))

  pub no_position : (xs : List X) → All (λ x. p x ≡ false) xs → position p xs ≡ None
  no_position [] fail = refl
  no_position (x ∷ xs) fail =
      position_cons x xs
      ∙ cond-false (p x) (Some 0) (option_map suc (position p xs)) (All-head (λ x. p x ≡ false) x xs fail)
      ∙ ap (option_map suc) (no_position xs (All-tail (λ x. p x ≡ false) x xs fail))

  -- the element at the first place
  pub find_by_position : (xs : List X) → find p xs ≡ option_and_then (slice_get xs) (position p xs)
  find_by_position xs =
      ⊎_elim (λ lt. find_at p xs
      ∙ ap (option_and_then (slice_get xs)) (sym (cond-true _ (Some (position_or_len p xs)) None (lt-ltb _ _ lt))))
      (λ ge. find_at p xs ∙ slice_get_past xs (position_or_len p xs) ge
      ∙ ap (option_and_then (slice_get xs)) (sym (cond-false _ (Some (position_or_len p xs)) None (le-ltb _ _ ge))))
      (cases_lt (position_or_len p xs) (length xs))

  -- a place is one of the list's
  pub place_within : (xs : List X) (i : ℕ) → position p xs ≡ Some i → i < length xs
  place_within xs i e =
      ⊎_elim (λ lt. subst (λ k. k < length xs)
      (same_Some _ _ (sym (cond-true _ (Some (position_or_len p xs)) None (lt-ltb _ _ lt)) ∙ e)) lt)
      (λ ge. absurd (none-some i (sym (cond-false _ (Some (position_or_len p xs)) None (le-ltb _ _ ge)) ∙ e)))
      (cases_lt (position_or_len p xs) (length xs))

  -- a search finds what stands at a place where the test passes, when all before it fail
  pub find_first : (xs : List X) (i : ℕ)
      → ((j : ℕ) (x : X) → j < i → slice_get xs j ≡ Some x → p x ≡ false)
      → ((x : X) → slice_get xs i ≡ Some x → p x ≡ true) → find p xs ≡ slice_get xs i
  find_first [] i before here = refl
  find_first (x ∷ xs) zero before here = cond-true (p x) (Some x) (find p xs) (here x refl)
  find_first (x ∷ xs) (suc i) before here =
      cond-false (p x) (Some x) (find p xs) (before 0 x (omega arith) refl)
      ∙ find_first xs i (λ j y lt at. before (suc j) y (omega arith) at) here

  -- what a search finds passes
  pub find_passes : (xs : List X) (x : X) → find p xs ≡ Some x → p x ≡ true
  find_passes [] x h = absurd (none-some x h)
  find_passes (y ∷ ys) x h =
      ⊎_elim (λ yes. ap p (sym (same_Some y x (sym (cond-true (p y) (Some y) (find p ys) yes) ∙ h))) ∙ yes)
      (λ no. find_passes ys x (sym (cond-false (p y) (Some y) (find p ys) no) ∙ h))
      (cases_Bool (p y))

-- ---- elements with their places

module _ {X : Type 0} where
  enumerate_push : (n : ℕ) (xs : List X) (x : X) → enumerate_from n (xs ++ x ∷ [])
      ≡ enumerate_from n xs ++ (n + length xs, x) ∷ []
  enumerate_push n [] x = ap (λ k. (k, x) ∷ []) (omega arith)
  enumerate_push n (y ∷ ys) x =
      ap (λ rest. (n, y) ∷ rest) (enumerate_push (n + 1) ys x
      ∙ ap (λ k. enumerate_from (n + 1) ys ++ (k, x) ∷ []) (omega arith))

  enumerate_get : (n : ℕ) (xs : List X) (i : ℕ) → slice_get (enumerate_from n xs) i
      ≡ option_map (λ x. (n + i, x)) (slice_get xs i)
  enumerate_get n [] i = refl
  enumerate_get n (x ∷ xs) zero = ap (λ k. Some (k, x)) (omega arith)
  enumerate_get n (x ∷ xs) (suc i) =
      enumerate_get (n + 1) xs i ∙ ap (λ k. option_map (λ x. (k, x)) (slice_get xs i)) (omega arith)

  -- from 0 on
  pub enumerate_last : (xs : List X) (x : X) → enumerate_from 0 (xs ++ x ∷ [])
      ≡ enumerate_from 0 xs ++ (length xs, x) ∷ []
  enumerate_last xs x = enumerate_push 0 xs x ∙ ap (λ k. enumerate_from 0 xs ++ (k, x) ∷ []) (omega arith)

  pub enumerate_at : (xs : List X) (i : ℕ) → slice_get (enumerate_from 0 xs) i
      ≡ option_map (λ x. (i, x)) (slice_get xs i)
  enumerate_at xs i = enumerate_get 0 xs i ∙ ap (λ k. option_map (λ x. (k, x)) (slice_get xs i)) (omega arith)

  -- the numbers are below where they end
  pub enumerated_within : (n : ℕ) (xs : List X) (limit : ℕ) → n + length xs ≤ limit
      → All (λ at. at.0 < limit) (enumerate_from n xs)
  enumerated_within n [] limit short = All-nil (λ at. at.0 < limit)
  enumerated_within n (x ∷ xs) limit short =
      All-cons (λ at. at.0 < limit) (n, x) (enumerate_from (n + 1) xs) (omega arith)
      (enumerated_within (n + 1) xs limit (omega arith))
