-- What the items of an array came to: none for one that isn't settled, and else whether it succeeded.
use Rattle.std.specs.Prelude.{ℕ, Bool, true, false, List, length, count_by, Option, Some, None}

-- whether an item is settled
abbrev pub is_settled : Option Bool → Bool
is_settled None = false
is_settled (Some ok) = true

-- whether an item succeeded
abbrev pub is_success : Option Bool → Bool
is_success None = false
is_success (Some ok) = ok

-- how many items are settled
abbrev pub settled_count : List (Option Bool) → ℕ
settled_count items = count_by is_settled items

-- how many items succeeded
abbrev pub success_count : List (Option Bool) → ℕ
success_count items = count_by is_success items

-- how many successes are enough: so many as are asked for, or all
abbrev pub minimum : Option ℕ → List (Option Bool) → ℕ
minimum (Some min) items = min
minimum None items = length items
