-- What is found first in a list, and whether anything passes in lists joined end to end.
use Rattle.std.proofs.Common.{◌≡◌, ℕ, zero, suc, ◌+◌, ◌<◌, Bool, true, false, ◌||◌, cond, List, [], ◌∷◌, ◌++◌, length, get_or, take, find, Some, None, refl, sym, ◌∙◌, ap, arith, ⊎_elim}
use Rattle.std.specs.List.{flat_map, list_any}
use Rattle.std.proofs.lemmas.Bool.{cases_Bool}
use Rattle.std.proofs.lemmas.List.Folds.{list_any-append}
use Rattle.std.proofs.lemmas.Option.{none-some}
use Rattle.fly_state.proofs.Loops.{more}

pub any-flat_map : {X Y : Type 0} (p : Y → Bool) (f : X → List Y) (xs : List X)
    → list_any p (flat_map f xs) ≡ list_any (λ x. list_any p (f x)) xs
any-flat_map p f [] = refl
any-flat_map p f (x ∷ xs) =
    list_any-append p (f x) (flat_map f xs) ∙ ap (λ b. list_any p (f x) || b) (any-flat_map p f xs)

-- where the first is not found, it is found among the others
find-later : {X : Type 0} (p : X → Bool) (x : X) (xs : List X) → p x ≡ false → find p (x ∷ xs) ≡ find p xs
find-later p x xs fails = ap (λ b. cond b (Some x) (find p xs)) fails

none-first : {X : Type 0} (p : X → Bool) (x : X) (xs : List X) → find p (x ∷ xs) ≡ None → p x ≡ false
none-first p x xs none =
    ⊎_elim (λ first. absurd (none-some x (sym none ∙ ap (λ b. cond b (Some x) (find p xs)) first))) (λ other. other)
    (cases_Bool (p x))

find-append : {X : Type 0} (p : X → Bool) (xs ys : List X) → find p xs ≡ None → find p (xs ++ ys) ≡ find p ys
find-append p [] ys none = refl
find-append p (x ∷ xs) ys none =
    let fails = none-first p x xs none in
    find-later p x (xs ++ ys) fails ∙ find-append p xs ys (sym (find-later p x xs fails) ∙ none)

-- one element more that is not it
pub none-more : {X : Type 0} (p : X → Bool) (xs : List X) (i : ℕ) (x : X) → i < length xs → x ≡ get_or xs i x
    → find p (take i xs) ≡ None → p x ≡ false → find p (take (i + 1) xs) ≡ None
none-more p xs i x lt is none fails =
    ap (find p) (more xs i x lt is) ∙ find-append p (take i xs) (x ∷ []) none ∙ find-later p x [] fails

-- the element that is the first
pub found-at : {X : Type 0} (p : X → Bool) (xs : List X) (i : ℕ) (x : X) → i < length xs → x ≡ get_or xs i x
    → find p (take i xs) ≡ None → p x ≡ true → find p xs ≡ Some x
found-at p [] i x lt is none passes = absurd (omega arith)
found-at p (y ∷ ys) zero x lt is none passes =
    ap (λ z. find p (z ∷ ys)) (sym is) ∙ ap (λ b. cond b (Some x) (find p ys)) passes
found-at p (y ∷ ys) (suc i) x lt is none passes =
    let fails = none-first p y (take i ys) none in
    find-later p y ys fails ∙ found-at p ys i x (omega arith) is (sym (find-later p y (take i ys) fails) ∙ none) passes
