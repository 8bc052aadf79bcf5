-- What loops have pushed for each element, and lists by what their elements are.
use Rattle.std.proofs.Common.{◌≡◌, ℕ, ◌+◌, ◌<◌, List, [], ◌∷◌, ◌++◌, map, length, get_or, take, refl, sym, ◌∙◌, ap, append_assoc}
use Rattle.std.specs.List.{flat_map, join_by, enumerate_from}
use Rattle.std.proofs.lemmas.List.{map-append}
use Rattle.std.proofs.lemmas.List.Folds.{flat_map-map}
use Rattle.fly_faults.proofs.Loops.{more}

pub mapped_more : {X A : Type 0} (f : X → A) (xs : List X) (i : ℕ) (x : X) (old now next : List A) → i < length xs → x ≡ get_or xs i x
    → now ≡ old ++ map f (take i xs) → next ≡ now ++ f x ∷ [] → next ≡ old ++ map f (take (i + 1) xs)
mapped_more f xs i x old now next lt is before step =
    step ∙ ap (λ r. r ++ f x ∷ []) before ∙ append_assoc old (map f (take i xs)) (f x ∷ [])
    ∙ ap (λ r. old ++ r) (sym (map-append f (take i xs) (x ∷ [])))
    ∙ ap (λ ys. old ++ map f ys) (sym (more xs i x lt is))

-- ---- elements by what they are

pub map-map : {X Y Z : Type 0} (f : Y → Z) (g : X → Y) (xs : List X) → map f (map g xs) ≡ map (λ x. f (g x)) xs
map-map f g [] = refl
map-map f g (x ∷ xs) = ap (λ ys. f (g x) ∷ ys) (map-map f g xs)

pub numbered-map : {X Y A : Type 0} (g : X → Y) (f : ℕ × Y → List A) (n : ℕ) (xs : List X)
    → flat_map (λ (at : ℕ × X). f (at.0, g at.1)) (enumerate_from n xs) ≡ flat_map f (enumerate_from n (map g xs))
numbered-map g f n [] = refl
numbered-map g f n (x ∷ xs) = ap (λ r. f (n, g x) ++ r) (numbered-map g f (n + 1) xs)

pub join-map : {X : Type 0} (f : X → List ℕ) (part : List ℕ) (xs : List X) → join_by f part xs ≡ join_by (λ y. y) part (map f xs)
join-map f part [] = refl
join-map f part (x ∷ xs) = ap (λ r. f x ++ r) (sym (flat_map-map (λ y. part ++ y) f xs))

-- ---- parts in a row

pub two : {A : Type 0} (old m1 m2 a b : List A) → m1 ≡ old ++ a → m2 ≡ m1 ++ b → m2 ≡ old ++ (a ++ b)
two old m1 m2 a b p q = q ∙ ap (λ r. r ++ b) p ∙ append_assoc old a b

pub three : {A : Type 0} (old m1 m2 m3 a b c : List A) → m1 ≡ old ++ a → m2 ≡ m1 ++ b → m3 ≡ m2 ++ c → m3 ≡ old ++ (a ++ b ++ c)
three old m1 m2 m3 a b c p q r = two old m2 m3 (a ++ b) c (two old m1 m2 a b p q) r
