-- The text of a path, an id at a time.
use Rattle.std.proofs.Common.{◌≡◌, ℕ, List, [], ◌∷◌, ◌++◌, Bool, true, false, if◌then◌else◌, refl, ap, append-nil}
use Rattle.fly_docs.specs.AttemptName.{slash, path_text}

-- the ids that are left, each behind a slash where another one stands before
abbrev pub rest_of_path : Bool → List (List ℕ) → List ℕ
rest_of_path later [] = []
rest_of_path later (id ∷ ids) = (if later then slash ∷ [] else []) ++ (id ++ rest_of_path true ids)

later_ids : (id : List ℕ) (ids : List (List ℕ)) → id ++ rest_of_path true ids ≡ path_text (id ∷ ids)
later_ids id [] = append-nil id
later_ids id (next ∷ ids) = ap (λ rest. id ++ slash ∷ rest) (later_ids next ids)

pub whole_path : (ids : List (List ℕ)) → rest_of_path false ids ≡ path_text ids
whole_path [] = refl
whole_path (id ∷ ids) = later_ids id ids
