-- Graphs as lists of targets, and a search along them.
use Rattle.std.specs.Prelude.{◌≡◌, ◌⊎◌, ℕ, ◌+◌, ◌<◌, Bool, true, false, not, List, length, map, flat_map, count_by, slice_index_or, All, Contains}
use Rattle.std.specs.List.{enumerate_from}
use Rattle.fly_graph.specs.Walks.{IsEdge, Reaches}

-- the edges to the targets of each place
abbrev pub edges_along : List (List ℕ) → List (ℕ × ℕ)
edges_along targets = flat_map (λ at. map (λ j. (at.0, j)) at.1) (enumerate_from 0 targets)

-- no target is at or past the count
abbrev pub AreBelow : ℕ → List (List ℕ) → Type 0
AreBelow count targets = All (λ ts. All (λ t. t < count) ts) targets

abbrev pub is_seen : List Bool → ℕ → Bool
is_seen seen v = slice_index_or seen v false

abbrev pub unseen_count : List Bool → ℕ
unseen_count seen = count_by not seen

-- the targets are marked, and those that were not marked before are kept
pub record Visits (targets : List ℕ) (seen : List Bool) (pending : List ℕ) (seen_after : List Bool) (pending_after : List ℕ) : Type 0 where
  pub len : length seen_after ≡ length seen
  pub kept : (v : ℕ) → is_seen seen v ≡ true → is_seen seen_after v ≡ true
  pub marked : (v : ℕ) → Contains targets v → is_seen seen_after v ≡ true
  pub only : (v : ℕ) → is_seen seen_after v ≡ true → (is_seen seen v ≡ true) ⊎ (Contains targets v × Contains pending_after v)
  pub waiting : (v : ℕ) → Contains pending v → Contains pending_after v
  pub waits : (v : ℕ) → Contains pending_after v → Contains pending v ⊎ Contains targets v
  pub work : unseen_count seen_after + length pending_after ≡ unseen_count seen + length pending

-- places are marked that are reached from the start, and where one is marked its targets are, or it is still kept
pub record IsSearch (targets : List (List ℕ)) (start : ℕ) (seen : List Bool) (pending : List ℕ) : Type 0 where
  pub len : length seen ≡ length targets
  pub first : is_seen seen start ≡ true
  pub sound : (v : ℕ) → is_seen seen v ≡ true → (start ≡ v) ⊎ Reaches (edges_along targets) start v
  pub waiting : (v : ℕ) → Contains pending v → is_seen seen v ≡ true
  pub closed : (u : ℕ) → is_seen seen u ≡ true → Contains pending u ⊎ ((v : ℕ) → IsEdge (edges_along targets) u v → is_seen seen v ≡ true)
