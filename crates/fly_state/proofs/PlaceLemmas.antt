-- The first place at which a test passes.
use Rattle.std.proofs.Common.{◌≡◌, ℕ, suc, ◌+◌, ◌<◌, ◌≤◌, Bool, true, false, cond, not, ltb, List, [], ◌∷◌, ◌++◌, map, length, take, get_or, Option, Some, None, Ordering, Less, Equal, Greater, refl, sym, ◌∙◌, ap, ⊎_elim, find, position, arith}
use Rattle.std.specs.List.{slice_get, position_or_len, HoldsAt}
use Rattle.std.specs.Ordering.{is_eq, ordering_reverse}
use Rattle.std.specs.Borrow.{Bor}
use Rattle.std.specs.Option.{option_or, option_map, option_copied, is_some, MatchOption}
use Rattle.std.specs.Cmp.{IsTotalOrder, Equal-is}
use Rattle.std.proofs.lemmas.Bool.{true≢false, false≢true, cases_lt, cases_Bool, lt-ltb, le-ltb, cond-true, cond-false}
use Rattle.std.proofs.lemmas.Cmp.{tied_back}
use Rattle.std.proofs.lemmas.List.{take_more, length-take-le, length-map}
use Rattle.std.proofs.lemmas.List.Folds.{find_at}
use Rattle.std.proofs.lemmas.Option.{slice_get_past, slice_get-map, slice_get-get_or, same_Some, none-some}

one_more : (k n : ℕ) → cond (ltb (1 + k) (suc n)) (Some (1 + k)) None ≡ option_map suc (cond (ltb k n) (Some k) None)
one_more k n =
    ⊎_elim (λ lt. cond-true _ (Some (1 + k)) None (lt-ltb (1 + k) (suc n) (omega arith))
    ∙ (ap Some (omega arith) ∙ ap (option_map suc) (sym (cond-true _ (Some k) None (lt-ltb k n lt)))))
    (λ ge. cond-false _ (Some (1 + k)) None (le-ltb (1 + k) (suc n) (omega arith))
    ∙ ap (option_map suc) (sym (cond-false _ (Some k) None (le-ltb k n ge))))
    (cases_lt k n)

first_case : (b : Bool) (k n : ℕ) → cond (ltb (cond (not b) (1 + k) 0) (suc n)) (Some (cond (not b) (1 + k) 0)) None
    ≡ cond b (Some 0) (option_map suc (cond (ltb k n) (Some k) None))
first_case true k n = cond-true _ (Some 0) None (lt-ltb 0 (suc n) (omega arith))
first_case false k n = one_more k n

alone : (b : Bool) → cond b (Some 0) (option_map suc None) ≡ option_or None (cond b (Some 0) None)
alone true = refl
alone false = refl

later : (b c : Bool) (o : Option ℕ) (n : ℕ) → cond b (Some 0) (option_map suc (option_or o (cond c (Some n) None)))
    ≡ option_or (cond b (Some 0) (option_map suc o)) (cond c (Some (suc n)) None)
later true c o n = refl
later false c (Some i) n = refl
later false true None n = refl
later false false None n = refl

module _ {X : Type 0} (p : X → Bool) where
  -- at the first element, or behind it
  pub position_cons : (x : X) (xs : List X) → position p (x ∷ xs) ≡ cond (p x) (Some 0) (option_map suc (position p xs))
  position_cons x xs = first_case (p x) (position_or_len p xs) (length xs)

  -- the element at the first place
  pub find_at_place : (xs : List X) (i : ℕ) → position p xs ≡ Some i → find p xs ≡ slice_get xs i
  find_at_place xs i e =
      ⊎_elim (λ lt. find_at p xs ∙ ap (slice_get xs) (same_Some _ _ (sym (cond-true _ (Some (position_or_len p xs)) None (lt-ltb _ _ lt)) ∙ e)))
      (λ ge. absurd (none-some i (sym (cond-false _ (Some (position_or_len p xs)) None (le-ltb _ _ ge)) ∙ e)))
      (cases_lt (position_or_len p xs) (length xs))

  pub find_nowhere : (xs : List X) → position p xs ≡ None → find p xs ≡ None
  find_nowhere xs e =
      ⊎_elim (λ lt. absurd (none-some (position_or_len p xs) (sym e ∙ cond-true _ (Some (position_or_len p xs)) None (lt-ltb _ _ lt))))
      (λ ge. find_at p xs ∙ slice_get_past xs (position_or_len p xs) ge)
      (cases_lt (position_or_len p xs) (length xs))

  -- behind one more element at the end
  pub position_push : (xs : List X) (y : X) → position p (xs ++ y ∷ []) ≡ option_or (position p xs) (cond (p y) (Some (length xs)) None)
  position_push [] y = position_cons y [] ∙ alone (p y)
  position_push (x ∷ xs) y =
      position_cons x (xs ++ y ∷ [])
      ∙ ap (λ o. cond (p x) (Some 0) (option_map suc o)) (position_push xs y)
      ∙ later (p x) (p y) (position p xs) (length xs)
      ∙ ap (λ o. option_or o (cond (p y) (Some (suc (length xs))) None)) (sym (position_cons x xs))

-- tests that agree pass first at one place
pub position_alike : {X : Type 0} (p q : X → Bool) (xs : List X) → ((x : X) → p x ≡ q x) → position p xs ≡ position q xs
position_alike p q [] same = refl
position_alike p q (x ∷ xs) same =
    position_cons p x xs ∙ ap (λ b. cond b (Some 0) (option_map suc (position p xs))) (same x)
    ∙ ap (λ o. cond (q x) (Some 0) (option_map suc o)) (position_alike p q xs same) ∙ sym (position_cons q x xs)

pub position_map : {X Y : Type 0} (p : Y → Bool) (f : X → Y) (xs : List X) → position p (map f xs) ≡ position (λ x. p (f x)) xs
position_map p f [] = refl
position_map p f (x ∷ xs) =
    position_cons p (f x) (map f xs) ∙ ap (λ o. cond (p (f x)) (Some 0) (option_map suc o)) (position_map p f xs)
    ∙ sym (position_cons (λ x. p (f x)) x xs)

or_none : (o : Option ℕ) → option_or o None ≡ o
or_none None = refl
or_none (Some i) = refl

reversed : (o : Ordering) → is_eq (ordering_reverse o) ≡ is_eq o
reversed Less = refl
reversed Equal = refl
reversed Greater = refl

-- ---- a table of first places, key by key
module _ {K : Type 0} {cmp : K → K → Ordering} (total : IsTotalOrder cmp) where
  alike : (k q : K) → is_eq (cmp k q) ≡ true → (x : K) → is_eq (cmp q x) ≡ is_eq (cmp k x)
  alike k q e x =
      let back : cmp q k ≡ Equal = tied_back total k q ((Equal-is (cmp k q)).0 e) in
      ap is_eq (total.congr q k x back)

  -- a key that stands before moves no first place
  pub known_key : (keys : List K) (k : K) (i : ℕ) → position (λ x. is_eq (cmp k x)) keys ≡ Some i
      → (q : K) → position (λ x. is_eq (cmp q x)) (keys ++ k ∷ []) ≡ position (λ x. is_eq (cmp q x)) keys
  known_key keys k i e q =
      position_push (λ x. is_eq (cmp q x)) keys k
      ∙ ⊎_elim (λ tied.
      let back : is_eq (cmp k q) ≡ true = (Equal-is (cmp k q)).1 (tied_back total q k ((Equal-is (cmp q k)).0 tied)) in
      let there : position (λ x. is_eq (cmp q x)) keys ≡ Some i = position_alike (λ x. is_eq (cmp q x)) (λ x. is_eq (cmp k x)) keys (alike k q back) ∙ e in
      ap (λ o. option_or o (cond (is_eq (cmp q k)) (Some (length keys)) None)) there ∙ sym there)
      (λ apart. ap (λ b. option_or (position (λ x. is_eq (cmp q x)) keys) (cond b (Some (length keys)) None)) apart
      ∙ or_none (position (λ x. is_eq (cmp q x)) keys))
      (cases_Bool (is_eq (cmp q k)))

  -- a new key has its own place, and no other key has another
  pub new_key : (keys : List K) (k : K) → position (λ x. is_eq (cmp k x)) keys ≡ None
      → (q : K) → position (λ x. is_eq (cmp q x)) (keys ++ k ∷ []) ≡ cond (is_eq (cmp k q)) (Some (length keys)) (position (λ x. is_eq (cmp q x)) keys)
  new_key keys k e q =
      let turned : is_eq (cmp q k) ≡ is_eq (cmp k q) = ap is_eq (total.antisymm q k) ∙ reversed (cmp k q) in
      position_push (λ x. is_eq (cmp q x)) keys k
      ∙ ap (λ b. option_or (position (λ x. is_eq (cmp q x)) keys) (cond b (Some (length keys)) None)) turned
      ∙ ⊎_elim (λ tied.
      let there : position (λ x. is_eq (cmp q x)) keys ≡ None = position_alike (λ x. is_eq (cmp q x)) (λ x. is_eq (cmp k x)) keys (alike k q tied) ∙ e in
      ap (λ o. option_or o (cond (is_eq (cmp k q)) (Some (length keys)) None)) there
      ∙ ap (λ b. cond b (Some (length keys)) None) tied
      ∙ sym (ap (λ b. cond b (Some (length keys)) (position (λ x. is_eq (cmp q x)) keys)) tied))
      (λ apart. ap (λ b. option_or (position (λ x. is_eq (cmp q x)) keys) (cond b (Some (length keys)) None)) apart
      ∙ or_none (position (λ x. is_eq (cmp q x)) keys)
      ∙ sym (ap (λ b. cond b (Some (length keys)) (position (λ x. is_eq (cmp q x)) keys)) apart))
      (cases_Bool (is_eq (cmp k q)))

  -- a table of the keys before a place, and after it
  module _ (keys : List K) (i : ℕ) (x : K) (below : i < length keys) (here : x ≡ get_or keys i x) where
    abbrev places_before : ℕ → K → Option ℕ
    places_before n q = position (λ k. is_eq (cmp q k)) (take n keys)

    one_longer : (q : K) → places_before (i + 1) q ≡ position (λ k. is_eq (cmp q k)) (take i keys ++ x ∷ [])
    one_longer q =
        ap (position (λ k. is_eq (cmp q k))) (take_more keys i x below ∙ ap (λ k. take i keys ++ k ∷ []) (sym here))

    pub table_same : (m : K → Option ℕ) (j : ℕ) → ((q : K) → m q ≡ places_before i q) → m x ≡ Some j → (q : K) → m q ≡ places_before (i + 1) q
    table_same m j before known q = before q ∙ sym (known_key (take i keys) x j (sym (before x) ∙ known) q) ∙ sym (one_longer q)

    pub table_more : (m n : K → Option ℕ) → ((q : K) → m q ≡ places_before i q) → m x ≡ None
        → ((q : K) → n q ≡ cond (is_eq (cmp x q)) (Some i) (m q)) → (q : K) → n q ≡ places_before (i + 1) q
    table_more m n before unknown after q =
        after q
        ∙ ap (cond (is_eq (cmp x q)) (Some i)) (before q)
        ∙ ap (λ l. cond (is_eq (cmp x q)) (Some l) (places_before i q)) (sym (length-take-le i keys (omega (arith, below))))
        ∙ sym (new_key (take i keys) x (sym (before x) ∙ unknown) q)
        ∙ sym (one_longer q)

-- what a look-up found, by the test of its result
pub nothing_at : (r : Option (Bor ℕ)) (o : Option ℕ) (none : Bool) → none ≡ true → is_some r ≡ not none → option_copied r ≡ o → o ≡ None
nothing_at None o none is tests same = sym same
nothing_at (Some x) o none is tests same = absurd (true≢false (tests ∙ ap not is))

pub something_at : (r : Option (Bor ℕ)) (o : Option ℕ) (none : Bool) → none ≡ false → is_some r ≡ not none → option_copied r ≡ o → (i : ℕ) × (o ≡ Some i)
something_at None o none is tests same = absurd (false≢true (tests ∙ ap not is))
something_at (Some x) o none is tests same = (x.now, sym same)

-- what a look-up of loans found
pub got_loan : {X : Type 0} (r : Option (Bor (Bor X))) (xs : List (Bor X)) (i : ℕ)
    → MatchOption r (length xs ≤ i) (λ x. (i < length xs) × HoldsAt (λ y. x.now ≡ y) xs i)
    → option_copied (option_copied r) ≡ slice_get (map (λ x. x.now) xs) i
got_loan None xs i past = sym (slice_get_past (map (λ x. x.now) xs) i (omega (arith, past, length-map xs (λ x. x.now))))
got_loan (Some x) xs i there =
    sym (slice_get-map (λ x. x.now) xs i ∙ ap (option_map (λ x. x.now)) (slice_get-get_or xs i x.now there.0 ∙ ap Some (sym (there.1 x.now))))
