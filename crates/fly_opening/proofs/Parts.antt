-- Lists made of the parts that elements give: where they are empty, and what stands at a place.
use Rattle.std.proofs.Common.{◌||◌, ◌≡◌, ◌==◌, ℕ, zero, suc, ◌+◌, ◌<◌, Bool, true, false, List, [], ◌∷◌, ◌++◌, map, length, get_or, take, All, Option, Some, None, refl, sym, ◌∙◌, ap, subst, arith}
use Rattle.std.specs.Option.{option_to_list}
use Rattle.std.specs.List.{flat_map, filter_map, enumerate_from, list_any, cons_option}
use Rattle.std.proofs.lemmas.Bool.{eqb-true}
use Rattle.std.proofs.lemmas.List.Elements.{All-nil, All-cons, All-head, All-tail, filter_map-append}
use Rattle.std.proofs.lemmas.List.{append-nil, take_more, map-append}
use Rattle.std.proofs.Math.ListN.{length-take}

-- ---- nothing in all parts

pub front-empty : {X : Type 0} (xs ys : List X) → xs ++ ys ≡ [] → xs ≡ []
front-empty [] ys h = refl
front-empty (x ∷ xs) ys h = absurd (cc)

pub back-empty : {X : Type 0} (xs ys : List X) → xs ++ ys ≡ [] → ys ≡ []
back-empty [] ys h = h
back-empty (x ∷ xs) ys h = absurd (cc)

pub parts-empty : {X Y : Type 0} (f : X → List Y) (xs : List X) → flat_map f xs ≡ [] → All (λ x. f x ≡ []) xs
parts-empty f [] h = All-nil (λ x. f x ≡ [])
parts-empty f (x ∷ xs) h =
    All-cons (λ x. f x ≡ []) x xs (front-empty (f x) (flat_map f xs) h)
    (parts-empty f xs (back-empty (f x) (flat_map f xs) h))

-- where each element gives one
pub all-given : {X Y : Type 0} (h : X → Option Y) (g : X → Y) (xs : List X) → All (λ x. h x ≡ Some (g x)) xs
    → filter_map h xs ≡ map g xs
all-given h g [] each = refl
all-given {X} h g (x ∷ xs) each =
    let P : X → Type 0 = λ x. h x ≡ Some (g x) in
    ap (λ o. cons_option o (filter_map h xs)) (All-head P x xs each)
    ∙ ap (λ ys. g x ∷ ys) (all-given h g xs (All-tail P x xs each))

pub same-map : {X Y : Type 0} (f g : X → Y) (xs : List X) → All (λ x. f x ≡ g x) xs → map f xs ≡ map g xs
same-map f g [] each = refl
same-map {X} f g (x ∷ xs) each =
    let P : X → Type 0 = λ x. f x ≡ g x in
    λ i. All-head P x xs each i ∷ same-map f g xs (All-tail P x xs each) i

-- ---- elements with their places

pub enumerate-push : {X : Type 0} (n : ℕ) (xs : List X) (x : X)
    → enumerate_from n (xs ++ x ∷ []) ≡ enumerate_from n xs ++ (n + length xs, x) ∷ []
enumerate-push n [] x = let e : n ≡ n + 0 = omega arith in ap (λ k. (k, x) ∷ []) e
enumerate-push n (y ∷ ys) x =
    let e : (n + 1) + length ys ≡ n + length (y ∷ ys) = omega arith in
    ap (λ r. (n, y) ∷ r) (enumerate-push (n + 1) ys x)
    ∙ ap (λ k. (n, y) ∷ (enumerate_from (n + 1) ys ++ (k, x) ∷ [])) e

-- the elements before a place
pub take-front : {X : Type 0} (xs ys : List X) → take (length xs) (xs ++ ys) ≡ xs
take-front [] ys = refl
take-front (x ∷ xs) ys = ap (λ zs. x ∷ zs) (take-front xs ys)

-- what stands behind others
pub placed : {X Y : Type 0} (f : ℕ × X → Y) (n : ℕ) (xs : List X) (x : X) (ys : List X) (d : Y)
    → get_or (map f (enumerate_from n (xs ++ x ∷ ys))) (length xs) d ≡ f (n + length xs, x)
placed f n [] x ys d = let e : n ≡ n + 0 = omega arith in ap (λ k. f (k, x)) e
placed f n (z ∷ xs) x ys d =
    let e : (n + 1) + length xs ≡ n + length (z ∷ xs) = omega arith in
    placed f (n + 1) xs x ys d ∙ ap (λ k. f (k, x)) e

-- what holds of each element with its place
pub numbered-at : {X : Type 0} (P : ℕ × X → Type 0) (n : ℕ) (xs : List X) (i : ℕ) (d : X)
    → All P (enumerate_from n xs) → i < length xs → P (n + i, get_or xs i d)
numbered-at P n [] i d each within = absurd (omega arith)
numbered-at P n (x ∷ xs) zero d each within =
    let e : n ≡ n + 0 = omega arith in
    subst (λ k. P (k, x)) e (All-head P (n, x) (enumerate_from (n + 1) xs) each)
numbered-at P n (x ∷ xs) (suc i) d each within =
    let e : (n + 1) + i ≡ n + suc i = omega arith in
    subst (λ k. P (k, get_or xs i d)) e
    (numbered-at P (n + 1) xs i d (All-tail P (n, x) (enumerate_from (n + 1) xs) each) (omega arith))

-- none of the elements before a place passes
pub none-before : {X : Type 0} (p : X → Bool) (xs : List X) (i j : ℕ) (d : X) → list_any p (take j xs) ≡ false
    → i < j → j < length xs → p (get_or xs i d) ≡ false
none-before p [] i j d none before within = absurd (omega arith)
none-before p (x ∷ xs) i zero d none before within = absurd (omega arith)
none-before p (x ∷ xs) zero (suc j) d none before within = first (p x) (list_any p (take j xs)) none
  where
    first : (a b : Bool) → a || b ≡ false → a ≡ false
    first false b h = refl
    first true b h = h
none-before p (x ∷ xs) (suc i) (suc j) d none before within =
    none-before p xs i j d (rest (p x) (list_any p (take j xs)) none) (omega arith) (omega arith)
  where
    rest : (a b : Bool) → a || b ≡ false → b ≡ false
    rest false b h = h
    rest true b h = absurd (cc)

-- ---- one element more

pub more : {X : Type 0} (xs : List X) (i : ℕ) (x : X) → i < length xs → x ≡ get_or xs i x
    → take (i + 1) xs ≡ take i xs ++ x ∷ []
more xs i x lt is = take_more xs i x lt ∙ ap (λ y. take i xs ++ y ∷ []) (sym is)

chosen-one : {X Y : Type 0} (h : X → Option Y) (x : X) → filter_map h (x ∷ []) ≡ option_to_list (h x)
chosen-one h x =
    elim (h x) as (λ o. cons_option o [] ≡ option_to_list o) [ None ↦ refl | Some y ↦ refl ]

pub chosen-more : {X Y : Type 0} (h : X → Option Y) (xs : List X) (x : X) (now next : List Y)
    → now ≡ filter_map h xs → next ≡ now ++ option_to_list (h x) → next ≡ filter_map h (xs ++ x ∷ [])
chosen-more h xs x now next before step =
    step ∙ ap (λ r. r ++ option_to_list (h x)) before ∙ ap (λ r. filter_map h xs ++ r) (sym (chosen-one h x))
    ∙ sym (filter_map-append h xs (x ∷ []))

pub mapped-more : {X Y : Type 0} (f : X → Y) (xs : List X) (x : X) (now next : List Y)
    → now ≡ map f xs → next ≡ now ++ f x ∷ [] → next ≡ map f (xs ++ x ∷ [])
mapped-more f xs x now next before step =
    step ∙ ap (λ r. r ++ f x ∷ []) before ∙ sym (map-append f xs (x ∷ []))

-- ---- with places

enumerated : {X : Type 0} (xs : List X) (i : ℕ) (x : X) → i < length xs → x ≡ get_or xs i x
    → enumerate_from 0 (take (i + 1) xs) ≡ enumerate_from 0 (take i xs) ++ (i, x) ∷ []
enumerated xs i x lt is =
    let long : 0 + length (take i xs) ≡ i = omega (arith, length-take i xs) in
    ap (enumerate_from 0) (more xs i x lt is) ∙ enumerate-push 0 (take i xs) x
    ∙ ap (λ k. enumerate_from 0 (take i xs) ++ (k, x) ∷ []) long

pub numbered-more : {X Y : Type 0} (f : ℕ × X → Y) (xs : List X) (i : ℕ) (x : X) (now next : List Y)
    → i < length xs → x ≡ get_or xs i x
    → now ≡ map f (enumerate_from 0 (take i xs)) → next ≡ now ++ f (i, x) ∷ []
    → next ≡ map f (enumerate_from 0 (take (i + 1) xs))
numbered-more f xs i x now next lt is before step =
    step ∙ ap (λ r. r ++ f (i, x) ∷ []) before ∙ sym (map-append f (enumerate_from 0 (take i xs)) ((i, x) ∷ []))
    ∙ ap (map f) (sym (enumerated xs i x lt is))

-- no option that is something is nothing
pub nothing-else : {X : Type 0} (o : Option X) → ((x : X) → o ≡ Some x → ⊥) → o ≡ None
nothing-else None h = refl
nothing-else (Some x) h = absurd (h x refl)

-- a list of which some elements came, and this one now
pub behind-front : {X : Type 0} (all front : List X) (x : X) (rest left : List X) → front ++ left ≡ all
    → left ≡ x ∷ rest → all ≡ front ++ x ∷ rest
behind-front all front x rest left whole step = sym whole ∙ ap (λ r. front ++ r) step

-- all elements have come
pub all-came : {X : Type 0} (front left all : List X) → front ++ left ≡ all → length left ≡ 0 → front ≡ all
all-came front [] all whole none = sym (append-nil front) ∙ whole
all-came front (x ∷ left) all whole none = absurd (omega arith)

-- a count of nothing
pub no-items : {X : Type 0} (xs : List X) (n : ℕ) → n ≡ length xs → (n == 0) ≡ true → xs ≡ []
no-items [] n count none = refl
no-items (x ∷ xs) n count none = let zero : n ≡ 0 = eqb-true n 0 none in absurd (omega arith)
