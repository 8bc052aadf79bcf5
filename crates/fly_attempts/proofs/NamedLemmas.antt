-- Things that get the names of the launches of their numbers.
use Rattle.std.proofs.Common.{◌≡◌, ℕ, zero, suc, ◌<◌, Bool, true, false, cond, List, [], ◌∷◌, ◌++◌, length, Option, Some, refl, sym, ◌∙◌, ap, subst, ⊎_elim, find, All}
use Rattle.std.specs.List.{slice_get, cons_option}
use Rattle.std.specs.Option.{option_map, option_and_then}
use Rattle.std.proofs.lemmas.Bool.{true≢false, cases_Bool, eq-eqb, eqb-true}
use Rattle.std.proofs.lemmas.List.Elements.{All-head, All-tail, filter_map-append}
use Rattle.std.proofs.lemmas.Option.{same_Some}
use Rattle.std.proofs.Math.Dec.{eqb}
use Rattle.fly_docs.specs.declared.attempt_name.AttemptName.{AttemptName}
use Rattle.fly_attempts.specs.declared.parts.Launch.{Launch}
use Rattle.fly_attempts.specs.Parts.{same_name}
use Rattle.fly_attempts.specs.Tables.{with_names, HasOwnNames}
use Rattle.fly_attempts.proofs.ListLemmas.{get_before, get_within}
use Rattle.fly_attempts.proofs.NameLemmas.{same_itself}

module _ {X Y : Type 0} (number : X → ℕ) (make : AttemptName → X → Y) (launches : List Launch) where
  -- the name of the launch of an element's number
  abbrev with_name : X → Option Launch → Option Y
  with_name x o = option_map (λ (l : Launch). make l.name x) o

  -- all numbers are those of launches
  abbrev pub AreNumbered : List X → Type 0
  AreNumbered xs = All (λ x. number x < length launches) xs

  -- one launch more changes no name
  pub names_kept : (l : Launch) (xs : List X) → AreNumbered xs
      → with_names number make (launches ++ l ∷ []) xs ≡ with_names number make launches xs
  names_kept l [] within = refl
  names_kept l (x ∷ xs) within =
      ap (λ o. cons_option (with_name x o) (with_names number make (launches ++ l ∷ []) xs))
      (get_before launches l (number x) (All-head (λ x. number x < length launches) x xs within))
      ∙ ap (cons_option (with_name x (slice_get launches (number x))))
      (names_kept l xs (All-tail (λ x. number x < length launches) x xs within))

  -- one more at the end
  pub names_more : (xs : List X) (x : X) (l : Launch) → slice_get launches (number x) ≡ Some l
      → with_names number make launches (xs ++ x ∷ []) ≡ with_names number make launches xs ++ make l.name x ∷ []
  names_more xs x l here =
      filter_map-append (λ x. with_name x (slice_get launches (number x))) xs (x ∷ [])
      ∙ ap (λ o. with_names number make launches xs ++ cons_option (with_name x o) []) here

  -- the first one, with its name
  first_named : (x : X) (xs : List X) (l : Launch) → slice_get launches (number x) ≡ Some l
      → with_names number make launches (x ∷ xs) ≡ make l.name x ∷ with_names number make launches xs
  first_named x xs l here = ap (λ o. cons_option (with_name x o) (with_names number make launches xs)) here

  -- each stands at its place
  pub names_get : (xs : List X) → AreNumbered xs → (i : ℕ) → slice_get (with_names number make launches xs) i
      ≡ option_and_then (λ x. with_name x (slice_get launches (number x))) (slice_get xs i)
  names_get [] within i = refl
  names_get (x ∷ xs) within zero =
      let there = get_within launches (number x) (All-head (λ x. number x < length launches) x xs within) in
      ap (λ ys. slice_get ys 0) (first_named x xs there.0 there.1) ∙ sym (ap (with_name x) there.1)
  names_get (x ∷ xs) within (suc i) =
      let there = get_within launches (number x) (All-head (λ x. number x < length launches) x xs within) in
      ap (λ ys. slice_get ys (suc i)) (first_named x xs there.0 there.1)
      ∙ names_get xs (All-tail (λ x. number x < length launches) x xs within) i

  -- a search for the name of a launch finds the first of its number
  module _ (own : HasOwnNames launches) (name_of : Y → AttemptName)
      (named : (n : AttemptName) (x : X) → name_of (make n x) ≡ n) (i : ℕ) (l : Launch)
      (here : slice_get launches i ≡ Some l) where
    tests : (x : X) (m : Launch) → slice_get launches (number x) ≡ Some m
        → same_name l.name (name_of (make m.name x)) ≡ eqb (number x) i
    tests x m there =
        ap (same_name l.name) (named m.name x)
        ∙ ⊎_elim (λ yes. yes ∙ sym (eq-eqb (number x) i (sym (own i (number x) l m here there yes))))
        (λ no. no ∙ ⊎_elim (λ same. absurd (true≢false (sym (subst (λ (k : Launch). same_name l.name k.name ≡ true)
        (same_Some l m (sym here ∙ ap (slice_get launches) (sym (eqb-true (number x) i same)) ∙ there))
        (same_itself l.name)) ∙ no)))
        (λ apart. sym apart) (cases_Bool (eqb (number x) i)))
        (cases_Bool (same_name l.name m.name))

    found_next : (b : Bool) (x : X) (m : Launch) (rest : Option Y) (next : Option X)
        → b ≡ eqb (number x) i → slice_get launches (number x) ≡ Some m
        → rest ≡ option_map (make l.name) next
        → cond b (Some (make m.name x)) rest ≡ option_map (make l.name) (cond b (Some x) next)
    found_next true x m rest next e there same =
        ap (λ (k : Launch). Some (make k.name x))
        (same_Some m l (sym there ∙ ap (slice_get launches) (eqb-true (number x) i (sym e)) ∙ here))
    found_next false x m rest next e there same = same

    pub names_found : (xs : List X) → AreNumbered xs
        → find (λ y. same_name l.name (name_of y)) (with_names number make launches xs)
        ≡ option_map (make l.name) (find (λ x. eqb (number x) i) xs)
    names_found [] within = refl
    names_found (x ∷ xs) within =
        let there = get_within launches (number x) (All-head (λ x. number x < length launches) x xs within) in
        let rest = names_found xs (All-tail (λ x. number x < length launches) x xs within) in
        let others = with_names number make launches xs in
        ap (find (λ y. same_name l.name (name_of y))) (first_named x xs there.0 there.1)
        ∙ found_next (same_name l.name (name_of (make there.0.name x))) x there.0
        (find (λ y. same_name l.name (name_of y)) others) (find (λ x. eqb (number x) i) xs)
        (tests x there.0 there.1) there.1 rest
        ∙ ap (λ b. option_map (make l.name) (cond b (Some x) (find (λ x. eqb (number x) i) xs)))
        (tests x there.0 there.1)
