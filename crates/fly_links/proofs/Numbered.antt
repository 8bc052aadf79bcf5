-- Lists with the place of each element beside it.
use Rattle.std.proofs.Common.{◌≡◌, ℕ, ◌+◌, ◌<◌, suc, ◌&&◌, Bool, true, false, cond, List, [], ◌∷◌, ◌++◌, map, filter, flat_map, length, take, get_or, refl, ◌∙◌, ap, ap₂, arith}
use Rattle.std.specs.List.{enumerate_from}
use Rattle.std.proofs.lemmas.List.{take_more, length-take-le}
use Rattle.std.proofs.lemmas.List.Elements.{filter-append}

pub enumerate_push : {X : Type 0} (n : ℕ) (xs : List X) (x : X) → enumerate_from n (xs ++ x ∷ []) ≡ enumerate_from n xs ++ (n + length xs, x) ∷ []
enumerate_push n [] x = ap (λ k. (k, x) ∷ []) (omega arith)
enumerate_push n (y ∷ xs) x = ap (λ l. (n, y) ∷ l) (enumerate_push (n + 1) xs x ∙ ap (λ k. enumerate_from (n + 1) xs ++ (k, x) ∷ []) (omega arith))

-- one more element
pub enumerate_more : {X : Type 0} (xs : List X) (i : ℕ) (d : X) → i < length xs
    → enumerate_from 0 (take (i + 1) xs) ≡ enumerate_from 0 (take i xs) ++ (i, get_or xs i d) ∷ []
enumerate_more xs i d below =
    ap (enumerate_from 0) (take_more xs i d below) ∙ enumerate_push 0 (take i xs) (get_or xs i d)
    ∙ ap (λ k. enumerate_from 0 (take i xs) ++ (k, get_or xs i d) ∷ []) (omega (arith, length-take-le i xs (omega arith)))

pub picked_more : {X : Type 0} (p : ℕ × X → Bool) (xs : List X) (i : ℕ) (d : X) → i < length xs
    → filter p (enumerate_from 0 (take (i + 1) xs)) ≡ filter p (enumerate_from 0 (take i xs)) ++ cond (p (i, get_or xs i d)) ((i, get_or xs i d) ∷ []) []
picked_more p xs i d below = ap (filter p) (enumerate_more xs i d below) ∙ filter-append p (enumerate_from 0 (take i xs)) ((i, get_or xs i d) ∷ [])

-- tests that agree at the places of the list
pub picked_alike : {X : Type 0} (p q : ℕ × X → Bool) (n : ℕ) (xs : List X) → ((k : ℕ) (x : X) → k < length xs → p (n + k, x) ≡ q (n + k, x))
    → filter p (enumerate_from n xs) ≡ filter q (enumerate_from n xs)
picked_alike p q n [] same = refl
picked_alike p q n (x ∷ xs) same =
    ap₂ (λ b ys. cond b ((n, x) ∷ ys) ys)
    (ap (λ k. p (k, x)) (omega arith) ∙ same 0 x (omega arith) ∙ ap (λ k. q (k, x)) (omega arith))
    (picked_alike p q (n + 1) xs (λ k y lt. ap (λ m. p (m, y)) (omega arith) ∙ same (suc k) y (omega arith) ∙ ap (λ m. q (m, y)) (omega arith)))

pub picked_none : {X : Type 0} (p : ℕ × X → Bool) (n : ℕ) (xs : List X) → ((k : ℕ) (x : X) → k < length xs → p (n + k, x) ≡ false) → filter p (enumerate_from n xs) ≡ []
picked_none p n [] none = refl
picked_none p n (x ∷ xs) none =
    ap₂ (λ b ys. cond b ((n, x) ∷ ys) ys) (ap (λ k. p (k, x)) (omega arith) ∙ none 0 x (omega arith))
    (picked_none p (n + 1) xs (λ k y lt. ap (λ m. p (m, y)) (omega arith) ∙ none (suc k) y (omega arith)))

twice_at : {X : Type 0} (p : X → Bool) (x : X) (b : Bool) (ys zs ws : List X) → ys ≡ zs → filter p ws ≡ ys
    → filter p (cond b (x ∷ ws) ws) ≡ cond (b && p x) (x ∷ zs) zs
twice_at p x true ys zs ws e f = ap (λ us. cond (p x) (x ∷ us) us) (f ∙ e)
twice_at p x false ys zs ws e f = f ∙ e

pub filter_twice : {X : Type 0} (p q : X → Bool) (xs : List X) → filter p (filter q xs) ≡ filter (λ x. q x && p x) xs
filter_twice p q [] = refl
filter_twice p q (x ∷ xs) = twice_at p x (q x) (filter p (filter q xs)) (filter (λ y. q y && p y) xs) (filter q xs) (filter_twice p q xs) refl

-- over the images of the elements
pub flat_map_images : {X Y Z : Type 0} (f : X → Y) (g : ℕ × Y → List Z) (n : ℕ) (xs : List X)
    → flat_map g (enumerate_from n (map f xs)) ≡ flat_map (λ at. g (at.0, f at.1)) (enumerate_from n xs)
flat_map_images f g n [] = refl
flat_map_images f g n (x ∷ xs) = ap (λ ys. g (n, f x) ++ ys) (flat_map_images f g (n + 1) xs)
