-- Elements of lists that are joined.
use Rattle.std.proofs.Common.{◌≡◌, ℕ, zero, suc, ◌+◌, ◌≤◌, arith, List, [], ◌∷◌, ◌++◌, flat_map, length, take, Some, refl, sym, ◌∙◌, ap, subst, length-append}
use Rattle.std.specs.List.{slice_get}
use Rattle.std.proofs.lemmas.Option.{none-some, same_Some}

pub append-nothing : {X : Type 0} (xs : List X) → xs ++ [] ≡ xs
append-nothing [] = refl
append-nothing (x ∷ xs) = ap (λ ys. x ∷ ys) (append-nothing xs)

pub slice_get-front : {X : Type 0} (xs ys : List X) (k : ℕ) (q : X) → slice_get xs k ≡ Some q → slice_get (xs ++ ys) k ≡ Some q
slice_get-front [] ys k q e = absurd (none-some q e)
slice_get-front (x ∷ xs) ys zero q e = e
slice_get-front (x ∷ xs) ys (suc k) q e = slice_get-front xs ys k q e

pub slice_get-back : {X : Type 0} (xs ys : List X) (k : ℕ) → slice_get (xs ++ ys) (length xs + k) ≡ slice_get ys k
slice_get-back [] ys k = let e : 0 + k ≡ k = omega arith in ap (slice_get ys) e
slice_get-back (x ∷ xs) ys k =
    let e : length (x ∷ xs) + k ≡ suc (length xs + k) = omega arith in
    ap (slice_get (x ∷ (xs ++ ys))) e ∙ slice_get-back xs ys k

module _ {X Y : Type 0} (f : X → List Y) where
  -- the k-th element of what comes of an element stands behind all that comes of the earlier ones
  pub slice_get-flat_map : (xs : List X) (i : ℕ) (x : X) (k : ℕ) (q : Y) → slice_get xs i ≡ Some x → slice_get (f x) k ≡ Some q
      → slice_get (flat_map f xs) (length (flat_map f (take i xs)) + k) ≡ Some q
  slice_get-flat_map [] i x k q at e = absurd (none-some x at)
  slice_get-flat_map (y ∷ ys) zero x k q at e =
      let start : 0 + k ≡ k = omega arith in
      ap (slice_get (f y ++ flat_map f ys)) start
      ∙ slice_get-front (f y) (flat_map f ys) k q (subst (λ z. slice_get (f z) k ≡ Some q) (sym (same_Some _ _ at)) e)
  slice_get-flat_map (y ∷ ys) (suc i) x k q at e =
      let before = length (flat_map f (take i ys)) in
      let long : length (f y ++ flat_map f (take i ys)) + k ≡ length (f y) + (before + k) =
      omega (arith, length-append (f y) (flat_map f (take i ys))) in
      ap (slice_get (f y ++ flat_map f ys)) long
      ∙ slice_get-back (f y) (flat_map f ys) (before + k)
      ∙ slice_get-flat_map ys i x k q at e

  pub length-flat_map_more : (xs : List X) (i : ℕ) (x : X) → slice_get xs i ≡ Some x
      → length (flat_map f (take (i + 1) xs)) ≡ length (flat_map f (take i xs)) + length (f x)
  length-flat_map_more [] i x at = absurd (none-some x at)
  length-flat_map_more (y ∷ ys) zero x at =
      let same : y ≡ x = same_Some _ _ at in
      let one : zero + 1 ≡ suc zero = omega arith in
      ap (λ n. length (flat_map f (take n (y ∷ ys)))) one
      ∙ ap length (append-nothing (f y)) ∙ ap (λ z. length (f z)) same ∙ (let e : length (f x) ≡ 0 + length (f x) = omega arith in e)
  length-flat_map_more (y ∷ ys) (suc i) x at =
      let one : suc i + 1 ≡ suc (i + 1) = omega arith in
      let more = length-flat_map_more ys i x at in
      let first = length-append (f y) (flat_map f (take (i + 1) ys)) in
      let second = length-append (f y) (flat_map f (take i ys)) in
      ap (λ n. length (flat_map f (take n (y ∷ ys)))) one
      ∙ (let e : length (f y ++ flat_map f (take (i + 1) ys)) ≡ length (f y ++ flat_map f (take i ys)) + length (f x) = omega (arith, first, second, more) in e)

pub take-whole : {X : Type 0} (xs : List X) (n : ℕ) → length xs ≤ n → take n xs ≡ xs
take-whole [] zero le = refl
take-whole [] (suc n) le = refl
take-whole (x ∷ xs) zero le = absurd (omega arith)
take-whole (x ∷ xs) (suc n) le = ap (λ ys. x ∷ ys) (take-whole xs n (omega arith))

pub flat-empty : {X Y : Type 0} (f : X → List Y) (xs : List X) → ((k : ℕ) (x : X) → slice_get xs k ≡ Some x → f x ≡ []) → flat_map f xs ≡ []
flat-empty f [] none = refl
flat-empty f (x ∷ xs) none =
    ap (λ ys. ys ++ flat_map f xs) (none 0 x refl) ∙ flat-empty f xs (λ k y at. none (suc k) y at)
