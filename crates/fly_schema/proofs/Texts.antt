-- Texts behind references.
use Rattle.std.proofs.Common.{◌≡◌, Bool, List, [], ◌∷◌, ◌||◌, map, Bor, refl, ap}
use Rattle.std.specs.List.{list_any}

pub any_behind : {A : Type 0} (p : A → Bool) (xs : List (Bor A))
    → list_any p (map (λ x. x.now) xs) ≡ list_any (λ x. p x.now) xs
any_behind p [] = refl
any_behind p (x ∷ xs) = ap (λ b. p x.now || b) (any_behind p xs)
