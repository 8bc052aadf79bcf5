-- The one place of a list made by a function at which a test passes.
use Rattle.std.proofs.Common.{◌≡◌, ℕ, ◌<◌, Bool, true, false, map, All, get_or, find, position, Some, None, sym, ◌∙◌, ap, subst, zero-add, arith}
use Rattle.std.specs.List.{range_with_len, slice_get, position_or_len}
use Rattle.std.proofs.lemmas.Bool.{lt-ltb, cond-true}
use Rattle.std.proofs.lemmas.List.Folds.{find_at}
use Rattle.std.proofs.lemmas.List.FromFn.{length-map-range_with_len, get_or-map-range_with_len}
use Rattle.std.proofs.lemmas.List.Sums.{position_or_len_is}
use Rattle.std.proofs.lemmas.Option.{slice_get-get_or}

module _ {X : Type 0} (f : ℕ → X) (n : ℕ) where
  pub at : (i : ℕ) (d : X) → i < n → get_or (map f (range_with_len 0 n)) i d ≡ f i
  at i d small = get_or-map-range_with_len f 0 n i i d small (zero-add i)

  pub got : (i : ℕ) → i < n → slice_get (map f (range_with_len 0 n)) i ≡ Some (f i)
  got i small =
      slice_get-get_or (map f (range_with_len 0 n)) i (f i) (omega (arith, length-map-range_with_len f 0 n))
      ∙ ap Some (at i (f i) small)

  -- the test passes there and before it nowhere
  pub first : (p : X → Bool) (i : ℕ) → i < n → p (f i) ≡ true → ((k : ℕ) → k < i → p (f k) ≡ false)
      → position_or_len p (map f (range_with_len 0 n)) ≡ i
  first p i small passes fails =
      position_or_len_is p (map f (range_with_len 0 n)) i (f i) (omega (arith, length-map-range_with_len f 0 n))
      (λ k before. subst (λ x. p x ≡ false) (sym (at k (f i) (omega arith))) (fails k before))
      (λ within. subst (λ x. p x ≡ true) (sym (at i (f i) small)) passes)

  pub position-first : (p : X → Bool) (i : ℕ) → i < n → p (f i) ≡ true → ((k : ℕ) → k < i → p (f k) ≡ false)
      → position p (map f (range_with_len 0 n)) ≡ Some i
  position-first p i small passes fails =
      let place = first p i small passes fails in
      let len = length-map-range_with_len f 0 n in
      cond-true _ (Some (position_or_len p (map f (range_with_len 0 n)))) None (lt-ltb _ _ (omega (arith, place, len)))
      ∙ ap Some place

  pub find-first : (p : X → Bool) (i : ℕ) → i < n → p (f i) ≡ true → ((k : ℕ) → k < i → p (f k) ≡ false)
      → find p (map f (range_with_len 0 n)) ≡ Some (f i)
  find-first p i small passes fails =
      find_at p (map f (range_with_len 0 n))
      ∙ ap (slice_get (map f (range_with_len 0 n))) (first p i small passes fails)
      ∙ got i small

  pub each : (P : X → Type 0) → ((i : ℕ) → i < n → P (f i)) → All P (map f (range_with_len 0 n))
  each P h k d within =
      let small : k < n = omega (arith, length-map-range_with_len f 0 n) in
      subst P (sym (at k d small)) (h k small)
