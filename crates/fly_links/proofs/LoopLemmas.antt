-- What a loop has pushed after the first elements of a list, and then one more.
use Rattle.std.proofs.Common.{◌≡◌, ℕ, suc, ◌+◌, ◌<◌, Bool, true, false, cond, List, [], ◌∷◌, ◌++◌, map, filter, length, take, get_or, refl, sym, ◌∙◌, ap, ap₂, arith}
use Rattle.std.specs.List.{flat_map, enumerate_from}
use Rattle.std.specs.Borrow.{Bor}
use Rattle.std.proofs.lemmas.List.{take_more, flat_map_more, map-append, map_push, length-map, length-take-le}
use Rattle.std.proofs.lemmas.List.Elements.{filter-append}
use Rattle.fly_links.proofs.Numbered.{enumerate_push}

pub more : {X : Type 0} (xs : List X) (i : ℕ) (x : X) → i < length xs → x ≡ get_or xs i x → take (i + 1) xs ≡ take i xs ++ x ∷ []
more xs i x lt is = take_more xs i x lt ∙ ap (λ y. take i xs ++ y ∷ []) (sym is)

pub pushed_more : {X A : Type 0} (f : X → List A) (xs : List X) (i : ℕ) (x : X) (old now next : List A) → i < length xs → x ≡ get_or xs i x
    → now ≡ old ++ flat_map f (take i xs) → next ≡ now ++ f x → next ≡ old ++ flat_map f (take (i + 1) xs)
pushed_more f xs i x old now next lt is before step =
    step ∙ ap (λ r. r ++ f x) before ∙ flat_map_more f old (take i xs) x ∙ ap (λ ys. old ++ flat_map f ys) (sym (more xs i x lt is))

pub map-flat_map : {X A B : Type 0} (g : A → B) (f : X → List A) (xs : List X) → map g (flat_map f xs) ≡ flat_map (λ x. map g (f x)) xs
map-flat_map g f [] = refl
map-flat_map g f (x ∷ xs) = map-append g (f x) (flat_map f xs) ∙ ap (λ r. map g (f x) ++ r) (map-flat_map g f xs)

-- over loans, each with its place
pub placed_more : {X Y : Type 0} (f : ℕ × X → Y) (xs : List (Bor X)) (i : ℕ) (x : Bor X) → i < length xs → x ≡ get_or xs i x
    → map f (enumerate_from 0 (map (λ l. l.now) (take (i + 1) xs))) ≡ map f (enumerate_from 0 (map (λ l. l.now) (take i xs))) ++ f (i, x.now) ∷ []
placed_more {X} f xs i x lt is =
    let now : List (Bor X) → List X = map (λ l. l.now) in
    let short : length (now (take i xs)) ≡ i = length-map (take i xs) (λ (l : Bor X). l.now) ∙ length-take-le i xs (omega (arith, lt)) in
    let at : 0 + length (now (take i xs)) ≡ i = omega (arith, short) in
    ap (λ ys. map f (enumerate_from 0 ys)) (ap now (more xs i x lt is) ∙ map_push (λ (l : Bor X). l.now) (take i xs) x)
    ∙ ap (map f) (enumerate_push 0 (now (take i xs)) x.now ∙ ap (λ k. enumerate_from 0 (now (take i xs)) ++ (k, x.now) ∷ []) at)
    ∙ map_push f (enumerate_from 0 (now (take i xs))) (i, x.now)

-- of the views of elements those that pass
pub passed_more : {A K C : Type 0} (g : A → K) (p : K → Bool) (f : K → C) (xs : List A) (i : ℕ) (x : A) → i < length xs → x ≡ get_or xs i x
    → map f (filter p (map g (take (i + 1) xs))) ≡ map f (filter p (map g (take i xs))) ++ cond (p (g x)) (f (g x) ∷ []) []
passed_more g p f xs i x lt is =
    let one : map f (cond (p (g x)) (g x ∷ []) []) ≡ cond (p (g x)) (f (g x) ∷ []) [] =
    elim (p (g x)) as (λ b. map f (cond b (g x ∷ []) []) ≡ cond b (f (g x) ∷ []) []) [ true ↦ refl | false ↦ refl ] in
    ap (λ ys. map f (filter p ys)) (ap (map g) (more xs i x lt is) ∙ map_push g (take i xs) x)
    ∙ ap (map f) (filter-append p (map g (take i xs)) (g x ∷ []))
    ∙ map-append f (filter p (map g (take i xs))) (cond (p (g x)) (g x ∷ []) [])
    ∙ ap (λ r. map f (filter p (map g (take i xs))) ++ r) one

-- functions that agree at the places of the list
pub placed_alike : {X Y : Type 0} (f g : ℕ × X → Y) (n : ℕ) (xs : List X) → ((k : ℕ) (x : X) → k < length xs → f (n + k, x) ≡ g (n + k, x))
    → map f (enumerate_from n xs) ≡ map g (enumerate_from n xs)
placed_alike f g n [] same = refl
placed_alike f g n (x ∷ xs) same =
    ap₂ (λ y ys. y ∷ ys) (ap (λ k. f (k, x)) (omega arith) ∙ same 0 x (omega arith) ∙ ap (λ k. g (k, x)) (omega arith))
    (placed_alike f g (n + 1) xs (λ k y lt. ap (λ m. f (m, y)) (omega arith) ∙ same (suc k) y (omega arith) ∙ ap (λ m. g (m, y)) (omega arith)))
