-- Lists that hold one thing as often as another list has elements.
use Rattle.std.proofs.Common.{◌≡◌, ℕ, zero, suc, ◌<◌, List, [], ◌∷◌, ◌++◌, map, take, length, refl, ap, arith}

-- with one element more
pub constant_more : {X Y : Type 0} (y : Y) (xs : List X) (i : ℕ) → i < length xs
    → map (λ (x : X). y) (take i xs) ++ y ∷ [] ≡ map (λ (x : X). y) (take (suc i) xs)
constant_more y [] i within = absurd (omega (arith, within))
constant_more y (x ∷ xs) zero within = refl
constant_more y (x ∷ xs) (suc i) within = ap (λ ys. y ∷ ys) (constant_more y xs i (omega (arith, within)))
