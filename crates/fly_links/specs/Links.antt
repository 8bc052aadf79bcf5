-- Which nodes a node needs, as rows.
use Rattle.std.specs.Prelude.{ℕ, nat_le, Bool, false, List, ◌++◌, map, filter, flat_map, length, slice_index_or}
use Rattle.std.specs.List.{range_with_len}
use Rattle.fly_docs.specs.declared.workflow.Workflow.{Workflow}
use Rattle.fly_docs.specs.Plans.{places_of}
use Rattle.fly_docs.specs.Edges.{edges_of}
use Rattle.fly_docs.specs.Reaching.{reaches}
use Rattle.fly_links.specs.Rows.{row_at}

-- the nodes that reach themselves, in plan order
abbrev pub cyclic_places : Workflow → List ℕ
cyclic_places w = filter (λ v. reaches (edges_of w) v v) (places_of w)

-- what a node names, its cases, and what the branches around it name
abbrev pub joined_row : List (List ℕ) → List (List ℕ) → List (List ℕ) → ℕ → List ℕ
joined_row names cases around v = (row_at names v ++ row_at cases v) ++ flat_map (row_at names) (row_at around v)

abbrev pub joined_rows : List (List ℕ) → List (List ℕ) → List (List ℕ) → List (List ℕ)
joined_rows names cases around = map (joined_row names cases around) (range_with_len 0 (length names))

-- the rows without a place, and the marks that are set
abbrev pub is_empty_row : List (List ℕ) → ℕ → Bool
is_empty_row rows v = nat_le (length (row_at rows v)) 0

abbrev pub empty_places : List (List ℕ) → List ℕ
empty_places rows = filter (is_empty_row rows) (range_with_len 0 (length rows))

abbrev pub marked_places : List Bool → List ℕ
marked_places marks = filter (λ v. slice_index_or marks v false) (range_with_len 0 (length marks))
