-- The first fault of a list of things, found one by one.
use Rattle.std.proofs.Common.{◌≡◌, ℕ, ◌+◌, ◌<◌, ◌≤◌, List, [], ◌∷◌, map, length, get_or, drop, Option, Some, None, sym, ap, ◌∙◌}
use Rattle.std.specs.Option.{option_or}
use Rattle.std.proofs.lemmas.List.{drop_more, drop_all}
use Rattle.fly_schema.specs.Places.{Fault, inside, index, first_of, first_numbered}

module _ {X : Type 0} (f : X → Option Fault) where
  -- what is found from the item with this number on
  abbrev pub numbered_from : List X → ℕ → Option Fault
  numbered_from xs n = first_numbered n (map f (drop n xs))

  pub numbered_at : (xs : List X) (n : ℕ) (d : X) → n < length xs
      → numbered_from xs n ≡ option_or (inside (index n) (f (get_or xs n d))) (numbered_from xs (n + 1))
  numbered_at xs n d h = ap (λ ys. first_numbered n (map f ys)) (drop_more xs n d h)

  pub numbered_end : (xs : List X) (n : ℕ) → length xs ≤ n → numbered_from xs n ≡ None
  numbered_end xs n h = ap (λ ys. first_numbered n (map f ys)) (drop_all n xs h)

  -- nothing is found in this item
  pub numbered_next : (xs : List X) (n : ℕ) (d : X) → n < length xs → f (get_or xs n d) ≡ None
      → numbered_from xs n ≡ numbered_from xs (n + 1)
  numbered_next xs n d h e = numbered_at xs n d h
      ∙ ap (λ o. option_or (inside (index n) o) (numbered_from xs (n + 1))) e

  -- this item has a fault
  pub numbered_found : (xs : List X) (n : ℕ) (d : X) (x : Fault) → n < length xs → f (get_or xs n d) ≡ Some x
      → numbered_from xs n ≡ inside (index n) (Some x)
  numbered_found xs n d x h e =
      numbered_at xs n d h ∙ ap (λ o. option_or (inside (index n) o) (numbered_from xs (n + 1))) e

  abbrev pub first_from : List X → ℕ → Option Fault
  first_from xs n = first_of (map f (drop n xs))

  pub first_at : (xs : List X) (n : ℕ) (d : X) → n < length xs
      → first_from xs n ≡ option_or (f (get_or xs n d)) (first_from xs (n + 1))
  first_at xs n d h = ap (λ ys. first_of (map f ys)) (drop_more xs n d h)

  pub first_end : (xs : List X) (n : ℕ) → length xs ≤ n → first_from xs n ≡ None
  first_end xs n h = ap (λ ys. first_of (map f ys)) (drop_all n xs h)

  pub first_next : (xs : List X) (n : ℕ) (d : X) → n < length xs → f (get_or xs n d) ≡ None
      → first_from xs n ≡ first_from xs (n + 1)
  first_next xs n d h e = first_at xs n d h ∙ ap (λ o. option_or o (first_from xs (n + 1))) e

  pub first_found : (xs : List X) (n : ℕ) (d : X) (x : Fault) → n < length xs → f (get_or xs n d) ≡ Some x
      → first_from xs n ≡ Some x
  first_found xs n d x h e = first_at xs n d h ∙ ap (λ o. option_or o (first_from xs (n + 1))) e

  -- ---- a loop over a list, as far as the item with this number

  pub items_found : (xs : List X) (n : ℕ) (v : X) (x : Fault) → numbered_from xs 0 ≡ numbered_from xs n → n < length xs
      → v ≡ get_or xs n v → Some x ≡ f v → inside (index n) (Some x) ≡ numbered_from xs 0
  items_found xs n v x so_far h at e = sym (so_far ∙ numbered_found xs n v x h (ap f (sym at) ∙ sym e))

  pub items_end : (xs : List X) (n : ℕ) → numbered_from xs 0 ≡ numbered_from xs n → length xs ≤ n
      → None ≡ numbered_from xs 0
  items_end xs n so_far h = sym (so_far ∙ numbered_end xs n h)

  -- ---- a loop over what is left of a list

  pub rest_found : (all : Option Fault) (n : ℕ) (xs ys : List X) (v : X) (x : Fault)
      → all ≡ first_numbered n (map f xs) → xs ≡ v ∷ ys
      → Some x ≡ f v → inside (index n) (Some x) ≡ all
  rest_found all n xs ys v x so_far at e =
      sym (so_far ∙ ap (λ zs. first_numbered n (map f zs)) at
      ∙ ap (λ o. option_or (inside (index n) o) (first_numbered (n + 1) (map f ys))) (sym e))

  pub rest_next : (all : Option Fault) (n : ℕ) (xs ys : List X) (v : X) → all ≡ first_numbered n (map f xs)
      → xs ≡ v ∷ ys
      → None ≡ f v → all ≡ first_numbered (n + 1) (map f ys)
  rest_next all n xs ys v so_far at e =
      so_far ∙ ap (λ zs. first_numbered n (map f zs)) at
      ∙ ap (λ o. option_or (inside (index n) o) (first_numbered (n + 1) (map f ys))) (sym e)

  pub rest_end : (all : Option Fault) (n : ℕ) (xs : List X) → all ≡ first_numbered n (map f xs) → xs ≡ [] → None ≡ all
  rest_end all n xs so_far at = sym (so_far ∙ ap (λ zs. first_numbered n (map f zs)) at)
