-- What is counted along lists of targets, within so many levels.
use Rattle.std.specs.Prelude.{ℕ, zero, suc, ◌+◌, List, [], sum_by, slice_index, slice_index_or}

-- On the last level each place has what it has there; above that what it has itself, and what its targets have.
unfoldable pub total_within : ℕ → List (List ℕ) → List ℕ → List ℕ → ℕ → ℕ
total_within zero targets own last v = slice_index last v
total_within (suc n) targets own last v =
    slice_index own v + sum_by (λ t. total_within n targets own last t) (slice_index_or targets v [])
