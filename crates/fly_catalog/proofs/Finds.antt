-- What a search of a list finds, where at most one of its values passes.
use Rattle.std.proofs.Common.{◌≡◌, ℕ, zero, suc, Bool, true, false, List, [], ◌∷◌, refl}
use Rattle.std.specs.Prelude.{Option, Some, None, cond, slice_get}
use Rattle.std.specs.List.{find}

-- a test passes or fails
pub by_test : {Y : Type 0} (b : Bool) → (b ≡ true → Y) → (b ≡ false → Y) → Y
by_test true passed failed = passed refl
by_test false passed failed = failed refl

pub find_unique : {X : Type 0} (p : X → Bool) (xs : List X) (x : X) (j : ℕ) → slice_get xs j ≡ Some x → p x ≡ true
    → ((i : ℕ) (y : X) → slice_get xs i ≡ Some y → p y ≡ true → y ≡ x) → find p xs ≡ Some x
find_unique p [] x j at passes one = cc
find_unique {X} p (y ∷ ys) x j at passes one =
    by_test (p y)
    (λ passed. let is : y ≡ x = one 0 y refl passed in rw passed (cc))
    (λ failed. rw failed (later failed (λ i h. find_unique p ys x i h passes (λ k z. one (suc k) z)) j at))
  where
    later : p y ≡ false → ((i : ℕ) → slice_get ys i ≡ Some x → find p ys ≡ Some x) → (j : ℕ) → slice_get (y ∷ ys) j ≡ Some x → find p ys ≡ Some x
    later failed rest zero h = let is : y ≡ x = cc in cc
    later failed rest (suc i) h = rest i h

pub find_none : {X : Type 0} (p : X → Bool) (xs : List X) → ((i : ℕ) (y : X) → slice_get xs i ≡ Some y → p y ≡ true → ⊥) → find p xs ≡ None
find_none p [] none = refl
find_none p (y ∷ ys) none =
    by_test (p y) (λ passed. absurd (none 0 y refl passed)) (λ failed. rw failed (find_none p ys (λ i z. none (suc i) z)))
