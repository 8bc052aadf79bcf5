-- The text of an owner.
use Rattle.std.proofs.Common.{◌≡◌, ℕ, List, [], ◌∷◌, ◌++◌, length, take, ◌≤◌, ◌∙◌, refl, ap, arith}
use Rattle.std.proofs.lemmas.List.{append-nil, take_all}
use Rattle.fly_docs.proofs.NameTexts.{slashed, slashed_path}
use Rattle.fly_catalog.specs.Cached.{owner_text}

-- the execution, and each id behind a slash
pub owner_slashed : (exec : List ℕ) (path : List (List ℕ)) → exec ++ slashed path ≡ owner_text exec path
owner_slashed exec [] = append-nil exec
owner_slashed exec (id ∷ ids) = ap (λ rest. exec ++ rest) (slashed_path (id ∷ ids) (omega arith))

-- what is written id by id
pub owner_from_loop : (exec : List ℕ) (path items : List (List ℕ)) (k : ℕ) (text whole : List ℕ) → whole ≡ text → text ≡ exec ++ slashed (take k items)
    → length items ≤ k → items ≡ path → whole ≡ owner_text exec path
owner_from_loop exec path items k text whole is so_far all same =
    is ∙ so_far ∙ ap (λ ids. exec ++ slashed ids) (take_all k items all ∙ same) ∙ owner_slashed exec path
