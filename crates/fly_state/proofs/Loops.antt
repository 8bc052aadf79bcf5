-- What a loop has made of the first elements of a list, and then of one more.
use Rattle.std.proofs.Common.{◌≡◌, ℕ, zero, suc, ◌+◌, ◌<◌, Bool, true, false, ◌||◌, ◌&&◌, List, [], ◌∷◌, ◌++◌, map, length, get_or, take, refl, sym, ◌∙◌, ap, arith}
use Rattle.std.specs.Prelude.{Result, Ok, Err, OnOk, IfOk}
use Rattle.std.specs.List.{flat_map, list_any, list_all}
use Rattle.std.proofs.lemmas.List.{take_more, flat_map_more, map-append}
use Rattle.std.proofs.lemmas.List.Folds.{list_any-append}

pub more : {X : Type 0} (xs : List X) (i : ℕ) (x : X) → i < length xs → x ≡ get_or xs i x → take (i + 1) xs ≡ take i xs ++ x ∷ []
more xs i x lt is = take_more xs i x lt ∙ ap (λ y. take i xs ++ y ∷ []) (sym is)

pub pushed_more : {X A : Type 0} (f : X → List A) (xs : List X) (i : ℕ) (x : X) (old now next : List A) → i < length xs → x ≡ get_or xs i x
    → now ≡ old ++ flat_map f (take i xs) → next ≡ now ++ f x → next ≡ old ++ flat_map f (take (i + 1) xs)
pushed_more f xs i x old now next lt is before step =
    step ∙ ap (λ r. r ++ f x) before ∙ flat_map_more f old (take i xs) x ∙ ap (λ ys. old ++ flat_map f ys) (sym (more xs i x lt is))

pub on_ok : {T E : Type 0} {A B : Type 0} (r : Result T E) → (A → B) → OnOk r A → OnOk r B
on_ok (Ok x) f h = f h
on_ok (Err e) f h = h

pub if_ok : {T E : Type 0} {P Q : T → Type 0} (r : Result T E) → ((x : T) → P x → Q x) → IfOk r P → IfOk r Q
if_ok (Ok x) f h = f x h
if_ok (Err e) f h = h

pub mapped_more : {X Y : Type 0} (f : X → Y) (xs : List X) (i : ℕ) (x : X) (now next : List Y) → i < length xs → x ≡ get_or xs i x
    → now ≡ map f (take i xs) → next ≡ now ++ f x ∷ [] → next ≡ map f (take (i + 1) xs)
mapped_more f xs i x now next lt is before step =
    step ∙ ap (λ r. r ++ f x ∷ []) before ∙ sym (map-append f (take i xs) (x ∷ [])) ∙ ap (map f) (sym (more xs i x lt is))
