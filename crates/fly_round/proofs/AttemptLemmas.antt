-- The table of present attempts, launch by launch.
use Rattle.std.proofs.Common.{◌≡◌, ℕ, zero, suc, ◌+◌, ◌<◌, ◌==◌, arith, Bool, true, false, cond, List, [], ◌∷◌, length, take, get_or, position, Option, Some, None, refl, sym, ◌∙◌, ap, ⊎_elim, length-take-le}
use Rattle.std.specs.List.{slice_get, slice_set}
use Rattle.std.specs.Option.{option_or}
use Rattle.std.proofs.lemmas.Bool.{false≢true, eq-eqb}
use Rattle.std.proofs.lemmas.Map.Views.{exact_unsigned_eq as eqb-eq}
use Rattle.std.proofs.lemmas.List.{take_more}
use Rattle.std.proofs.lemmas.Option.{same_Some, slice_get_cases}
use Rattle.fly_state.proofs.PlaceLemmas.{position_push}

pub slice_get-set_same : {X : Type 0} (xs : List X) (n : ℕ) (y : X) → n < length xs → slice_get (slice_set xs n y) n ≡ Some y
slice_get-set_same [] n y lt = absurd (omega arith)
slice_get-set_same (x ∷ xs) zero y lt = refl
slice_get-set_same (x ∷ xs) (suc n) y lt = slice_get-set_same xs n y (omega arith)

pub slice_get-set_other : {X : Type 0} (xs : List X) (n i : ℕ) (y : X) → (i ≡ n → ⊥) → slice_get (slice_set xs n y) i ≡ slice_get xs i
slice_get-set_other [] n i y other = refl
slice_get-set_other (x ∷ xs) zero zero y other = absurd (other refl)
slice_get-set_other (x ∷ xs) zero (suc i) y other = refl
slice_get-set_other (x ∷ xs) (suc n) zero y other = refl
slice_get-set_other (x ∷ xs) (suc n) (suc i) y other = slice_get-set_other xs n i y (λ e. other (ap suc e))

pub or-nothing : {X : Type 0} (o : Option X) → option_or o None ≡ o
or-nothing None = refl
or-nothing (Some x) = refl

module _ (xs ys : List (Option ℕ)) (n k : ℕ) (within : n < length xs)
    (noted : slice_get xs n ≡ Some None → ys ≡ slice_set xs n (Some k))
    (kept : (first : ℕ) → slice_get xs n ≡ Some (Some first) → ys ≡ xs) where
  -- after a first place was noted, or one that came before it was kept
  pub noted-more : (i : ℕ) (x : Option ℕ) → slice_get xs i ≡ Some x
      → slice_get ys i ≡ Some (option_or x (cond (i == n) (Some k) None))
  noted-more i x at =
      ⊎_elim (λ there. by there.0 there.2 (i == n) refl) (λ past. absurd (omega (arith, past.0, within))) (slice_get_cases xs n).1
    where
      same : (o : Option ℕ) → slice_get xs n ≡ Some o → (i == n) ≡ true → x ≡ o
      same o there e = same_Some _ _ (sym at ∙ ap (slice_get xs) (eqb-eq i n e) ∙ there)

      by : (o : Option ℕ) → slice_get xs n ≡ Some o → (b : Bool) → (i == n) ≡ b
          → slice_get ys i ≡ Some (option_or x (cond b (Some k) None))
      by None there true e =
          ap (λ zs. slice_get zs i) (noted there)
          ∙ ap (slice_get (slice_set xs n (Some k))) (eqb-eq i n e)
          ∙ slice_get-set_same xs n (Some k) within
          ∙ ap (λ o. Some (option_or o (Some k))) (sym (same None there e))
      by None there false e =
          ap (λ zs. slice_get zs i) (noted there)
          ∙ slice_get-set_other xs n i (Some k) (λ one. absurd (false≢true (sym e ∙ eq-eqb i n one)))
          ∙ at ∙ ap Some (sym (or-nothing x))
      by (Some first) there true e =
          ap (λ zs. slice_get zs i) (kept first there) ∙ at
          ∙ ap Some (same (Some first) there e ∙ ap (λ o. option_or o (Some k)) (sym (same (Some first) there e)))
      by (Some first) there false e = ap (λ zs. slice_get zs i) (kept first there) ∙ at ∙ ap Some (sym (or-nothing x))

-- the first place among one launch more
pub position-more : {X : Type 0} (t : X → Bool) (xs : List X) (k : ℕ) (d : X) → k < length xs
    → position t (take (k + 1) xs) ≡ option_or (position t (take k xs)) (cond (t (get_or xs k d)) (Some k) None)
position-more t xs k d lt =
    ap (position t) (take_more xs k d lt)
    ∙ position_push t (take k xs) (get_or xs k d)
    ∙ ap (λ n. option_or (position t (take k xs)) (cond (t (get_or xs k d)) (Some n) None)) (length-take-le k xs (omega arith))

-- the same, where the launch is known and what the test says of it
pub position-step : {X : Type 0} (t : X → Bool) (xs : List X) (k : ℕ) (known : X) (b : Bool) → k < length xs → known ≡ get_or xs k known
    → t known ≡ b → position t (take (k + 1) xs) ≡ option_or (position t (take k xs)) (cond b (Some k) None)
position-step t xs k known b lt is passes =
    position-more t xs k known lt
    ∙ ap (λ c. option_or (position t (take k xs)) (cond c (Some k) None)) (ap t (sym is) ∙ passes)
