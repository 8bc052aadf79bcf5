-- Lists of elements that ids tell apart, and lists of images.
use Rattle.std.proofs.Common.{◌≡◌, ◌≢◌, ℕ, ◌+◌, List, [], ◌∷◌, ◌++◌, map, filter, flat_map, find, slice_get, AllPairs, Contains, Option, Some, None, refl, sym, ap, ap₂, ◌∙◌, subst, ⊎_elim, arith}
use Rattle.std.specs.Prelude.{Bool}
use Rattle.std.specs.List.{enumerate_from}
use Rattle.std.proofs.lemmas.Bool.{cases_order}
use Rattle.std.proofs.lemmas.List.{get_or-map, length-map}
use Rattle.std.proofs.lemmas.List.Kept.{AllPairs-cons, AllPairs-filter}
use Rattle.std.proofs.lemmas.Option.{none-some, slice_get_within, get_or_from_slice_get}
use Rattle.fly_docs.specs.declared.names.Identifier.{Identifier}
use Rattle.fly_docs.specs.Lookups.{is_same}
use Rattle.fly_docs.specs.Typed.{AreDistinct}
use Rattle.fly_faults.proofs.Lists.{all_of, apart, distinct_from, find_found, find_some, first_in, later_in, map_at, of_map_at, some_get}
use Rattle.fly_faults.proofs.Distinct.{same_by}
use Rattle.fly_faults.proofs.RunFaultLemmas.{same_id, id_same}

-- ---- images

pub flat_map_alike : {X Y : Type 0} (f g : X → List Y) (xs : List X) → ((x : X) → Contains xs x → f x ≡ g x)
    → flat_map f xs ≡ flat_map g xs
flat_map_alike f g [] same = refl
flat_map_alike f g (x ∷ xs) same =
    ap₂ (λ ys zs. ys ++ zs) (same x (first_in x xs)) (flat_map_alike f g xs (λ y has. same y (later_in x xs y has)))

pub map_alike : {X Y : Type 0} (f g : X → Y) (xs : List X) → ((x : X) → Contains xs x → f x ≡ g x) → map f xs ≡ map g xs
map_alike f g [] same = refl
map_alike f g (x ∷ xs) same =
    ap₂ (λ y ys. y ∷ ys) (same x (first_in x xs)) (map_alike f g xs (λ y has. same y (later_in x xs y has)))

-- the elements without their places
pub unnumbered : {X Y : Type 0} (f : X → Y) (n : ℕ) (xs : List X)
    → map (λ (at : ℕ × X). f at.1) (enumerate_from n xs) ≡ map f xs
unnumbered f n [] = refl
unnumbered f n (x ∷ xs) = ap (λ ys. f x ∷ ys) (unnumbered f (n + 1) xs)

-- ---- elements told apart

pub distinct_cons : {X : Type 0} (x : X) (xs : List X) → (Contains xs x → ⊥) → AreDistinct xs → AreDistinct (x ∷ xs)
distinct_cons {X} x xs fresh distinct =
    let apart_from : (y : X) → Contains xs y → x ≢ y = λ y has same. fresh (subst (Contains xs) (sym same) has) in
    AllPairs-cons (λ x y. x ≢ y) x xs (all_of (λ y. x ≢ y) xs apart_from) distinct

module _ {X Y : Type 0} (f : X → Y) where
  -- what a filter keeps of them
  pub distinct_filter : (p : X → Bool) (xs : List X) → AreDistinct (map f xs) → AreDistinct (map f (filter p xs))
  distinct_filter p xs distinct =
      let pairs : AllPairs (λ x y. f x ≢ f y) xs =
      λ i j d lt within same. distinct i j (f d) lt (omega (arith, within, length-map xs f))
      (get_or-map f xs i d (f d) (omega arith) ∙ same ∙ sym (get_or-map f xs j d (f d) within)) in
      let kept = AllPairs-filter (λ x y. f x ≢ f y) p xs pairs in
      distinct_from (map f (filter p xs)) (λ i j y lt first second.
      let here = of_map_at f (filter p xs) i y first in
      let there = of_map_at f (filter p xs) j y second in
      kept i j here.0 lt (slice_get_within (filter p xs) j there.0 there.1)
      (ap f (get_or_from_slice_get (filter p xs) i here.0 here.0 here.1) ∙ here.2
      ∙ sym (ap f (get_or_from_slice_get (filter p xs) j there.0 here.0 there.1) ∙ there.2)))

  -- each stands at one place
  pub one_place : (xs : List X) → AreDistinct (map f xs) → (i j : ℕ) (x y : X) → slice_get xs i ≡ Some x
      → slice_get xs j ≡ Some y → f x ≡ f y → i ≡ j
  one_place xs distinct i j x y first second same =
      let here : slice_get (map f xs) i ≡ Some (f y) = map_at f xs i x first ∙ ap Some same in
      let there : slice_get (map f xs) j ≡ Some (f y) = map_at f xs j y second in
      ⊎_elim (λ e. e)
      (λ order. absurd (⊎_elim (λ lt. apart (map f xs) distinct i j (f y) lt here there)
      (λ lt. apart (map f xs) distinct j i (f y) lt there here) order)) (cases_order i j)

-- ---- elements by their ids

module _ {X : Type 0} (id_of : X → Identifier) where
  -- the first element that has the id
  abbrev pub element_named : List X → Identifier → Option X
  element_named xs id = find (λ (x : X). is_same (id_of x) id) xs

  pub of_named : (xs : List X) (id : Identifier) (x : X) → element_named xs id ≡ Some x
      → Contains xs x × (id_of x ≡ id)
  of_named xs id x e =
      let found = find_found (λ (y : X). is_same (id_of y) id) xs x e in
      (found.0, same_id (id_of x) id found.1)

  pub named_in : (xs : List X) → AreDistinct (map id_of xs) → (id : Identifier) (x : X) → Contains xs x → id_of x ≡ id
      → element_named xs id ≡ Some x
  named_in xs distinct id x has is =
      let test : X → Bool = λ y. is_same (id_of y) id in
      let some = some_get (find test xs) (find_some test xs x has (id_same (id_of x) id is)) in
      let found = of_named xs id some.0 some.1 in
      some.1 ∙ ap Some (same_by id_of xs distinct some.0 x found.0 has (found.1 ∙ sym is))

  -- a part of a list names what the list does, where the part has that
  pub named_alike : (xs ys : List X) → AreDistinct (map id_of xs) → AreDistinct (map id_of ys)
      → ((x : X) → Contains ys x → Contains xs x) → (id : Identifier)
      → ((x : X) → element_named xs id ≡ Some x → Contains ys x) → element_named ys id ≡ element_named xs id
  named_alike xs ys distinct distinct_part within id kept = at (element_named xs id) (element_named ys id) refl refl
    where
      at : (o p : Option X) → element_named xs id ≡ o → element_named ys id ≡ p → p ≡ o
      at None None e f = refl
      at None (Some y) e f =
          let found = of_named ys id y f in
          absurd (none-some y (sym e ∙ named_in xs distinct id y (within y found.0) found.1))
      at (Some x) p e f = sym f ∙ named_in ys distinct_part id x (kept x e) (of_named xs id x e).1
