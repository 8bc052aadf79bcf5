-- Tests and lists.
use Rattle.std.proofs.Common.{◌≡◌, ℕ, suc, ◌+◌, ◌-◌, ◌<◌, ◌≤◌, arith, Bool, true, false, cond, Result, Ok, Err, Bor, ◌&&◌, List, [], ◌∷◌, ◌++◌, length, get_or, take, drop, Option, Some, None, is_some, filter, Bor, refl, sym, ◌∙◌, ap, subst, inl, inr}
use Rattle.std.proofs.lemmas.List.Elements.{filter_more, filter-append, filter_passes, All-head}
use Rattle.std.proofs.lemmas.List.{take-append-drop, take_more}
use Rattle.std.proofs.Math.Seq.{drop-cons, take-length}
use Rattle.std.specs.Option.{option_to_list, option_copied}
use Rattle.fly_cast.specs.Castable.{sole_element}
use Rattle.fly_cast.specs.Conversion.{result_ahead_of, each_result}
use Rattle.fly_types.specs.Membership.{Some_of}
use Rattle.std.specs.List.{All, list_all, AllByRecursion as Each}

-- two tests that agree at each element of a list

pub list_all-same : {X : Type 0} (p q : X → Bool) (xs : List X) → Each (λ x. p x ≡ q x) xs → list_all p xs
    ≡ list_all q xs
list_all-same p q [] h = refl
list_all-same p q (x ∷ xs) h = λ i. h.0 i && list_all-same p q xs h.1 i

pub filter-same : {X : Type 0} (p q : X → Bool) (xs : List X) → Each (λ x. p x ≡ q x) xs → filter p xs ≡ filter q xs
filter-same p q [] h = refl
filter-same p q (x ∷ xs) h = λ i. cond (h.0 i) (x ∷ filter-same p q xs h.1 i) (filter-same p q xs h.1 i)

pub each-map : {X : Type 0} (P Q : X → Type 0) → ((x : X) → P x → Q x) → (xs : List X) → Each P xs → Each Q xs
each-map P Q f [] h = tt
each-map P Q f (x ∷ xs) h = (f x h.0, each-map P Q f xs h.1)

-- an element that passes, after another that does
pub two_pass : {X : Type 0} (p : X → Bool) (xs : List X) (i : ℕ) (x y : X) → i < length xs → x ≡ get_or xs i x → p x
    ≡ true
    → filter p (take i xs) ≡ y ∷ [] → None ≡ sole_element (filter p xs)
two_pass p xs i x y lt is passes before =
    let more : filter p (take (i + 1) xs) ≡ y ∷ x ∷ [] =
    filter_more p xs i x lt ∙ ap (λ ys. ys ++ cond (p (get_or xs i x)) (get_or xs i x ∷ []) []) before
    ∙ ap (λ z. y ∷ cond (p z) (z ∷ []) []) (sym is) ∙ ap (λ b. y ∷ cond b (x ∷ []) []) passes in
    let parts : filter p xs ≡ (y ∷ x ∷ []) ++ filter p (drop (i + 1) xs) =
    ap (filter p) (sym (take-append-drop (i + 1) xs)) ∙ filter-append p (take (i + 1) xs) (drop (i + 1) xs)
    ∙ ap (λ ys. ys ++ filter p (drop (i + 1) xs)) more in
    sym (ap sole_element parts)

-- what is there, where something is
pub some_copied : {X : Type 0} (o : Option (Bor X)) → is_some o ≡ true → (x : X)
    × (option_to_list (option_copied o) ≡ x ∷ [])
some_copied None e = cc
some_copied (Some x) e = (x.now, refl)

-- ---- what each element gives

pub each_result-same : {X Y E : Type 0} (f g : X → Result Y E) (xs : List X) → Each (λ x. f x ≡ g x) xs
    → each_result f xs ≡ each_result g xs
each_result-same f g [] h = refl
each_result-same f g (x ∷ xs) h = λ i. result_ahead_of (each_result-same f g xs h.1 i) (h.0 i)

pub each-filter : {X : Type 0} (P : X → Type 0) (p : X → Bool) (xs : List X) → Each P xs → Each P (filter p xs)
each-filter P p [] h = tt
each-filter P p (x ∷ xs) h =
    elim (p x) as (λ b. Each P (cond b (x ∷ filter p xs) (filter p xs))) [
      | true ↦ (h.0, each-filter P p xs h.1)
      | false ↦ each-filter P p xs h.1
    ]

-- the parts of what did not fail
pub result_ahead_of-ok : {Y E : Type 0} (rest : Result (List Y) E) (one : Result Y E) (zs : List Y)
    → result_ahead_of rest one ≡ Ok zs
    → (y : Y) × (ys : List Y) × (one ≡ Ok y) × (rest ≡ Ok ys) × (zs ≡ y ∷ ys)
result_ahead_of-ok (Ok ys) (Ok y) zs e = (y, ys, refl, refl, cc)
result_ahead_of-ok (Err d) (Ok y) zs e = cc
result_ahead_of-ok rest (Err d) zs e = cc

pub each_result-push : {X Y E : Type 0} (f : X → Result Y E) (xs : List X) (ys : List Y) (x : X) (y : Y)
    → each_result f xs ≡ Ok ys → f x ≡ Ok y
    → each_result f (xs ++ x ∷ []) ≡ Ok (ys ++ y ∷ [])
each_result-push f [] ys x y before here = let e : [] ≡ ys = cc in
    ap (result_ahead_of (Ok [])) here ∙ ap (λ zs. Ok (zs ++ y ∷ [])) e
each_result-push f (w ∷ xs) ys x y before here =
    let parts = result_ahead_of-ok (each_result f xs) (f w) ys before in
    ap (λ r. result_ahead_of r (f w)) (each_result-push f xs parts.1 x y parts.3 here)
    ∙ ap (result_ahead_of (Ok (parts.1 ++ y ∷ []))) parts.2
    ∙ ap (λ zs. Ok (zs ++ y ∷ [])) (sym parts.4)

-- a failure behind others that do not fail
pub each_result-fails : {X Y E : Type 0} (f : X → Result Y E) (xs : List X) (ys : List Y) (x : X) (rest : List X)
    (e : E) → each_result f xs ≡ Ok ys → f x ≡ Err e
    → each_result f (xs ++ x ∷ rest) ≡ Err e
each_result-fails f [] ys x rest e before here = ap (result_ahead_of (each_result f rest)) here
each_result-fails f (w ∷ xs) ys x rest e before here =
    let parts = result_ahead_of-ok (each_result f xs) (f w) ys before in
    ap (λ r. result_ahead_of r (f w)) (each_result-fails f xs parts.1 x rest e parts.3 here)
    ∙ ap (result_ahead_of (Err e)) parts.2

-- ---- the one element that passes

sole_element-one : {X : Type 0} (xs : List X) (w : X) → sole_element xs ≡ Some w → xs ≡ w ∷ []
sole_element-one [] w e = cc
sole_element-one (x ∷ []) w e = cc
sole_element-one (x ∷ y ∷ xs) w e = cc

-- it has what all elements have
pub sole_element-has : {X : Type 0} (P : X → Type 0) (p : X → Bool) (xs : List X) (w : X)
    → sole_element (filter p xs) ≡ Some w → Each P xs → P w
sole_element-has P p xs w e h = (subst (Each P) (sole_element-one (filter p xs) w e) (each-filter P p xs h)).0

pub sole_element-passes : {X : Type 0} (p : X → Bool) (xs : List X) (w : X) → sole_element (filter p xs) ≡ Some w
    → p w ≡ true
sole_element-passes p xs w e =
    All-head (λ x. p x ≡ true) w []
    (subst (All (λ x. p x ≡ true)) (sole_element-one (filter p xs) w e) (filter_passes p xs))

pub some_each : {X : Type 0} (Q : X → Type 0) (xs : List X) → Each (λ x. Q x → Some_of Q xs) xs
some_each Q [] = tt
some_each Q (x ∷ xs) = (
  λ q. inl q,
  each-map (λ y. Q y → Some_of Q xs) (λ y. Q y → Some_of Q (x ∷ xs)) (λ y f q. inr (f q)) xs
      (some_each Q xs),
)

-- a list around its element at an index
pub split_at : {X : Type 0} (xs : List X) (i : ℕ) (x : X) → i < length xs → x ≡ get_or xs i x → xs
    ≡ take i xs ++ x ∷ drop (suc i) xs
split_at xs i x lt is =
    sym (take-append-drop i xs) ∙ ap (λ ys. take i xs ++ ys) (drop-cons xs i x lt)
    ∙ ap (λ y. take i xs ++ y ∷ drop (suc i) xs) (sym is)

pub split_first : {X : Type 0} (xs : List X) (y x : X) → 1 ≤ length xs → y ≡ get_or xs 0 y → y ≡ x → xs
    ≡ x ∷ take (length xs - 1) (drop 1 xs)
split_first [] y x long is same = absurd (omega arith)
split_first (z ∷ xs) y x long is same =
    let rest : length (z ∷ xs) - 1 ≡ length xs = omega arith in
    ap (λ w. w ∷ xs) (sym is ∙ same) ∙ ap (λ ys. x ∷ ys) (sym (ap (λ n. take n xs) rest ∙ take-length xs))

pub more : {X : Type 0} (xs : List X) (i : ℕ) (x : X) → i < length xs → x ≡ get_or xs i x → take (i + 1) xs
    ≡ take i xs ++ x ∷ []
more xs i x lt is = take_more xs i x lt ∙ ap (λ y. take i xs ++ y ∷ []) (sym is)
