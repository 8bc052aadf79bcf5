-- What a walk over the executions by their numbers finds.
use Rattle.std.proofs.Common.{◌≡◌, ℕ, zero, suc, ◌+◌, ◌%◌, ◌<◌, ◌≤◌, Bool, true, false, not, cond, List, [], ◌∷◌, ◌++◌, length, take, drop, find, All, Option, Some, None, option_map, option_to_list, refl, sym, subst, ap, ◌∙◌, arith}
use Rattle.std.specs.List.{slice_get, enumerate_from}
use Rattle.std.specs.Option.{option_or}
use Rattle.std.proofs.lemmas.List.{take_all}
use Rattle.std.proofs.lemmas.List.Elements.{All-append, All-take, All-drop, All-head, All-tail}
use Rattle.std.proofs.lemmas.List.Folds.{find-append}
use Rattle.std.proofs.lemmas.List.FromFn.{length-enumerate_from, get_or-enumerate_from}
use Rattle.std.proofs.lemmas.Option.{none-some, same_Some, slice_get-get_or}
use Rattle.fly_state.proofs.Lists.{enumerated-at}
use Rattle.fly_world.specs.World.{World, Execution, is_over}
use Rattle.fly_world.specs.Steps.{read_execution, executions_from}
use Rattle.fly_world.specs.Views.{first_between}

-- ---- lists walked by their places

module _ {X : Type 0} where
  drop_nil : (n : ℕ) → drop {A = X} n [] ≡ []
  drop_nil zero = refl
  drop_nil (suc n) = refl

  take_nil : (n : ℕ) → take {A = X} n [] ≡ []
  take_nil zero = refl
  take_nil (suc n) = refl

  -- what is left of a front from a place within it on begins with the element of that place
  drop_next : (xs : List X) (n end : ℕ) → n < end
      → drop n (take end xs) ≡ option_to_list (slice_get xs n) ++ drop (n + 1) (take end xs)
  drop_next xs n zero within = absurd (omega arith)
  drop_next [] zero (suc end) within = refl
  drop_next [] (suc n) (suc end) within = sym (drop_nil (suc n + 1))
  drop_next (x ∷ xs) zero (suc end) within = refl
  drop_next (x ∷ xs) (suc n) (suc end) within =
      let e : suc (n + 1) ≡ suc n + 1 = omega arith in
      drop_next xs n end (omega arith)
      ∙ ap (λ k. option_to_list (slice_get xs n) ++ drop k (take (suc end) (x ∷ xs))) e

  -- nothing is left of a front from its end on
  drop_past : (xs : List X) (n end : ℕ) → end ≤ n → drop n (take end xs) ≡ []
  drop_past xs zero zero within = refl
  drop_past xs (suc n) zero within = refl
  drop_past [] zero (suc end) within = refl
  drop_past [] (suc n) (suc end) within = refl
  drop_past (x ∷ xs) zero (suc end) within = absurd (omega arith)
  drop_past (x ∷ xs) (suc n) (suc end) within = drop_past xs n end (omega arith)

  -- what a search finds has what all have
  found-has : (P : X → Type 0) (p : X → Bool) (xs : List X) (x : X) → All P xs → find p xs ≡ Some x → P x
  found-has P p [] x all h = absurd (none-some x h)
  found-has P p (y ∷ ys) x all h = by (p y) h (found-has P p ys x (All-tail P y ys all))
    where
      by : (b : Bool) → cond b (Some y) (find p ys) ≡ Some x → (find p ys ≡ Some x → P x) → P x
      by true e rest = subst P (same_Some y x e) (All-head P y ys all)
      by false e rest = rest e

  -- each element stands at its number
  stands-there : (xs : List X) → All (λ at. slice_get xs at.0 ≡ Some at.1) (enumerate_from 0 xs)
  stands-there xs k d within =
      let short : k < length xs = subst (λ n. k < n) (length-enumerate_from 0 xs) within in
      let e : 0 + k ≡ k = omega arith in
      subst (λ at. slice_get xs at.0 ≡ Some at.1) (sym (get_or-enumerate_from 0 xs k d short))
      (ap (slice_get xs) e ∙ slice_get-get_or xs k d.1 short)

-- ---- the executions that are not over

abbrev goes_on : ℕ × Execution → Bool
goes_on at = not (is_over at.1)

-- the first of these numbers on goes on, or the next is looked at
between_more : (w : World) (n end : ℕ) → n < end
    → first_between w n end
    ≡ option_or (find goes_on (option_to_list (option_map (λ x. (n, x)) (slice_get w.executions n))))
    (first_between w (n + 1) end)
between_more w n end within =
    let all = enumerate_from 0 w.executions in
    let e : 0 + n ≡ n = omega arith in
    ap (find goes_on) (drop_next all n end within)
    ∙ find-append goes_on (option_to_list (slice_get all n)) (drop (n + 1) (take end all))
    ∙ ap (λ o. option_or (find goes_on (option_to_list o)) (first_between w (n + 1) end))
    (enumerated-at 0 w.executions n ∙ ap (λ k. option_map (λ x. (k, x)) (slice_get w.executions n)) e)

module _ (w : World) (n end : ℕ) (within : n < end) where
  abbrev found_or : Option Execution → Option (ℕ × Execution)
  found_or o = option_or (find goes_on (option_to_list (option_map (λ x. (n, x)) o))) (first_between w (n + 1) end)

  pub between_found : (x : Execution) → slice_get w.executions n ≡ Some x → is_over x ≡ false
      → first_between w n end ≡ Some (n, x)
  between_found x there on =
      between_more w n end within
      ∙ ap found_or there
      ∙ ap (λ b. option_or (cond (not b) (Some (n, x)) None) (first_between w (n + 1) end)) on

  pub between_over : (x : Execution) → slice_get w.executions n ≡ Some x → is_over x ≡ true
      → first_between w n end ≡ first_between w (n + 1) end
  between_over x there over =
      between_more w n end within
      ∙ ap found_or there
      ∙ ap (λ b. option_or (cond (not b) (Some (n, x)) None) (first_between w (n + 1) end)) over

  pub between_past : slice_get w.executions n ≡ None → first_between w n end ≡ first_between w (n + 1) end
  between_past none =
      between_more w n end within
      ∙ ap found_or none

pub between_none : (w : World) (n end : ℕ) → end ≤ n → first_between w n end ≡ None
between_none w n end past = ap (find goes_on) (drop_past (enumerate_from 0 w.executions) n end past)

-- from the start on, and else before it
pub read-between : (w : World) (from : ℕ)
    → read_execution w from
    ≡ option_or (first_between w (from % length w.executions) (length w.executions))
    (first_between w 0 (from % length w.executions))
read-between w from =
    let all = enumerate_from 0 w.executions in
    let start = from % length w.executions in
    let short : length all ≤ length w.executions = omega (arith, length-enumerate_from 0 w.executions) in
    find-append goes_on (drop start all) (take start all)
    ∙ ap (λ xs. option_or (find goes_on (drop start xs)) (find goes_on (take start all)))
    (sym (take_all (length w.executions) all short))

-- where there are no executions, none is read
pub read-none : (w : World) (from : ℕ) → length w.executions ≡ 0 → read_execution w from ≡ None
read-none w from none = by w.executions none
  where
    by : (xs : List Execution) → length xs ≡ 0
        → find goes_on (drop (from % length xs) (enumerate_from 0 xs)
        ++ take (from % length xs) (enumerate_from 0 xs)) ≡ None
    by [] e =
        let start = from % length {A = Execution} [] in
        ap (λ xs. find goes_on (xs ++ take start [])) (drop_nil start) ∙ ap (find goes_on) (take_nil start)
    by (x ∷ xs) e = absurd (omega arith)

-- what is read is the execution of its number
pub read-there : (w : World) (from : ℕ) (at : ℕ × Execution) → read_execution w from ≡ Some at
    → slice_get w.executions at.0 ≡ Some at.1
read-there w from at h =
    let P : ℕ × Execution → Type 0 = λ x. slice_get w.executions x.0 ≡ Some x.1 in
    let all = enumerate_from 0 w.executions in
    let start = from % length w.executions in
    found-has P goes_on (executions_from w from) at
    (All-append P (drop start all) (take start all) (All-drop P start all (stands-there w.executions))
    (All-take P start all (stands-there w.executions))) h

-- ---- an execution by its number

module _ (w : World) (o : Option (ℕ × Execution))
    (numbered : (at : ℕ × Execution) → o ≡ Some at → slice_get w.executions at.0 ≡ Some at.1)
    (number : ℕ) (is : Some number ≡ option_map (λ (at : ℕ × Execution). at.0) o) where
  -- what is there at the number
  pub numbered-is : (x : Execution) → slice_get w.executions number ≡ Some x → o ≡ Some (number, x)
  numbered-is x there = by o is numbered
    where
      by : (p : Option (ℕ × Execution)) → Some number ≡ option_map (λ (at : ℕ × Execution). at.0) p
          → ((at : ℕ × Execution) → p ≡ Some at → slice_get w.executions at.0 ≡ Some at.1) → p ≡ Some (number, x)
      by None e found = absurd (none-some number (sym e))
      by (Some at) e found =
          let same : at.0 ≡ number = sym (same_Some number at.0 e) in
          let as_well : at.1 ≡ x =
          same_Some at.1 x (sym (found at refl) ∙ ap (slice_get w.executions) same ∙ there) in
          λ k. Some (same k, as_well k)

  -- something is there
  pub numbered-there : slice_get w.executions number ≡ None → ⊥
  numbered-there none = by o is numbered
    where
      by : (p : Option (ℕ × Execution)) → Some number ≡ option_map (λ (at : ℕ × Execution). at.0) p
          → ((at : ℕ × Execution) → p ≡ Some at → slice_get w.executions at.0 ≡ Some at.1) → ⊥
      by None e found = none-some number (sym e)
      by (Some at) e found =
          none-some at.1 (sym none ∙ ap (slice_get w.executions) (same_Some number at.0 e) ∙ found at refl)

-- ---- read in two walks

module _ (w : World) (from count : ℕ) (counted : count ≡ length w.executions) where
  abbrev number_in : Option (ℕ × Execution) → Option ℕ
  number_in o = option_map (λ (at : ℕ × Execution). at.0) o

  read-counted : read_execution w from
      ≡ option_or (first_between w (from % count) count) (first_between w 0 (from % count))
  read-counted =
      read-between w from
      ∙ ap (λ n. option_or (first_between w (from % n) n) (first_between w 0 (from % n))) (sym counted)

  -- by the first walk
  pub read-first : (number : ℕ) → Some number ≡ number_in (first_between w (from % count) count)
      → Some number ≡ number_in (read_execution w from)
  read-first number e =
      by (first_between w (from % count) count) (first_between w 0 (from % count)) e ∙ sym (ap number_in read-counted)
    where
      by : (o p : Option (ℕ × Execution)) → Some number ≡ number_in o → Some number ≡ number_in (option_or o p)
      by None p h = absurd (none-some number (sym h))
      by (Some at) p h = h

  -- by the second one, where the first finds none
  pub read-second : None ≡ number_in (first_between w (from % count) count)
      → number_in (first_between w 0 (from % count)) ≡ number_in (read_execution w from)
  read-second e =
      by (first_between w (from % count) count) (first_between w 0 (from % count)) e ∙ sym (ap number_in read-counted)
    where
      by : (o p : Option (ℕ × Execution)) → None ≡ number_in o → number_in p ≡ number_in (option_or o p)
      by None p h = refl
      by (Some at) p h = absurd (none-some at.0 h)
