-- Lists of places by place, as rows of a table.
use Rattle.std.specs.Prelude.{ℕ, ◌-◌, ◌<◌, ◌==◌, Bool, drop, List, [], ◌∷◌, ◌++◌, if◌then◌else◌, map, filter, length, slice_index_or, All}
use Rattle.std.specs.List.{list_any, range_with_len}

-- the place is in the row
abbrev pub has_place : List ℕ → ℕ → Bool
has_place row u = list_any (λ place. place == u) row

-- the row at a place, none behind the last
abbrev pub row_at : List (List ℕ) → ℕ → List ℕ
row_at rows v = slice_index_or rows v []

-- the places whose rows have this one, rising
abbrev pub rows_with : List (List ℕ) → ℕ → List ℕ
rows_with rows u = filter (λ v. has_place (row_at rows v) u) (range_with_len 0 (length rows))

-- for each place below the count the places whose rows have it
abbrev pub transposed : ℕ → List (List ℕ) → List (List ℕ)
transposed count rows = map (rows_with rows) (range_with_len 0 count)

-- the row with the place at its end, where that is asked
abbrev pub with_place : Bool → List ℕ → ℕ → List ℕ
with_place asked row v = row ++ (if asked then v ∷ [] else [])

-- no row has this place or a later one
abbrev pub AreBefore : ℕ → List (List ℕ) → Type 0
AreBefore v rows = (u : ℕ) → u < length rows → All (λ place. place < v) (row_at rows u)

-- the last place of the row is this one
abbrev pub ends_in : List ℕ → ℕ → Bool
ends_in row v = list_any (λ place. place == v) (drop (length row - 1) row)
