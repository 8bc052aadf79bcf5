-- What each element of a list has, where each has something.
use Rattle.std.proofs.Common.{◌≡◌, Bool, ◌&&◌, List, [], ◌∷◌, ◌++◌, Option, Some, None, is_some, refl, sym, ◌∙◌, ap, subst}
use Rattle.std.specs.Option.{option_map, option_and_then}
use Rattle.std.specs.List.{list_all, AllByRecursion as Each}
use Rattle.fly_cast.specs.Fitting.{each_value}

pub map-some : {X Y : Type 0} (f : X → Y) (o : Option X) (y : Y) → option_map f o ≡ Some y → (x : X) × (o ≡ Some x)
    × (y ≡ f x)
map-some f (Some x) y e = (x, refl, cc)
map-some f None y e = cc

pub is_some-map : {X Y : Type 0} (f : X → Y) (o : Option X) → is_some (option_map f o) ≡ is_some o
is_some-map f (Some x) = refl
is_some-map f None = refl

abbrev pub ahead : {Y : Type 0} → Option (List Y) → Option Y → Option (List Y)
ahead rest one = option_and_then (λ y. option_map (λ ys. y ∷ ys) rest) one

pub ahead-some : {Y : Type 0} (rest : Option (List Y)) (one : Option Y) (zs : List Y) → ahead rest one ≡ Some zs
    → (y : Y) × (ys : List Y) × (one ≡ Some y) × (rest ≡ Some ys) × (zs ≡ y ∷ ys)
ahead-some (Some ys) (Some y) zs e = (y, ys, refl, refl, cc)
ahead-some None (Some y) zs e = cc
ahead-some rest None zs e = cc

pub each_value-push : {X Y : Type 0} (f : X → Option Y) (xs : List X) (ys : List Y) (x : X) (y : Y) → each_value f xs
    ≡ Some ys → f x ≡ Some y
    → each_value f (xs ++ x ∷ []) ≡ Some (ys ++ y ∷ [])
each_value-push f [] ys x y before here = let e : [] ≡ ys = cc in
    ap (ahead (Some [])) here ∙ ap (λ zs. Some (zs ++ y ∷ [])) e
each_value-push f (w ∷ xs) ys x y before here =
    let parts = ahead-some (each_value f xs) (f w) ys before in
    ap (λ r. ahead r (f w)) (each_value-push f xs parts.1 x y parts.3 here)
    ∙ ap (ahead (Some (parts.1 ++ y ∷ []))) parts.2
    ∙ ap (λ zs. Some (zs ++ y ∷ [])) (sym parts.4)

-- one that has nothing, behind others that have something
pub each_value-fails : {X Y : Type 0} (f : X → Option Y) (xs : List X) (ys : List Y) (x : X) (rest : List X)
    → each_value f xs ≡ Some ys → f x ≡ None
    → each_value f (xs ++ x ∷ rest) ≡ None
each_value-fails f [] ys x rest before here = ap (ahead (each_value f rest)) here
each_value-fails f (w ∷ xs) ys x rest before here =
    let parts = ahead-some (each_value f xs) (f w) ys before in
    ap (λ r. ahead r (f w)) (each_value-fails f xs parts.1 x rest parts.3 here) ∙ ap (ahead None) parts.2

ahead-tests : {Y : Type 0} (rest : Option (List Y)) (one : Option Y) → is_some (ahead rest one)
    ≡ (is_some one && is_some rest)
ahead-tests (Some ys) (Some y) = refl
ahead-tests None (Some y) = refl
ahead-tests rest None = refl

pub each_value-tests : {X Y : Type 0} (f : X → Option Y) (p : X → Bool) (xs : List X)
    → ((x : X) → is_some (f x) ≡ p x) → is_some (each_value f xs) ≡ list_all p xs
each_value-tests f p [] h = refl
each_value-tests f p (x ∷ xs) h = ahead-tests (each_value f xs) (f x) ∙ (λ i. h x i && each_value-tests f p xs h i)

-- where each has something, what follows of it holds of each
pub each-some : {X Y : Type 0} (Q : Y → Type 0) (f : X → Option Y) → ((x : X) (y : Y) → f x ≡ Some y → Q y)
    → (xs : List X) (ys : List Y)
    → each_value f xs ≡ Some ys → Each Q ys
each-some Q f step [] ys e = let none : [] ≡ ys = cc in subst (Each Q) none tt
each-some Q f step (x ∷ xs) ys e =
    let parts = ahead-some (each_value f xs) (f x) ys e in
    subst (Each Q) (sym parts.4) (step x parts.0 parts.2, each-some Q f step xs parts.1 parts.3)
