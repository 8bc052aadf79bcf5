-- A search for strongly connected components that goes along a path cut into segments.
use Rattle.std.specs.Prelude.{◌≡◌, ℕ, ◌+◌, suc, ◌-◌, ◌*◌, count_by, ◌<◌, ◌≤◌, ◌⊎◌, ◌++◌, Bool, true, false, List, [], ◌∷◌, length, slice_index, slice_index_or, slice_set, take, drop, filter, nat_le, nat_lt, nat_eq, ◌&&◌, Contains, if◌then◌else◌}
use Rattle.std.specs.List.{AllPairs, list_any}
use Rattle.fly_graph.specs.declared.components.Mark.{Mark}
use Rattle.fly_graph.specs.declared.components.Mark.TheVariants.{Unseen, OnPath, Done}
use Rattle.fly_graph.specs.declared.components.Search.{Search}
use Rattle.fly_graph.specs.Walks.{Reaches}
use Rattle.fly_graph.specs.Adjacency.{edges_leaving}

-- a search without where it lies in memory
pub record State : Type 0 where
  pub marks : List Mark
  pub followed : List ℕ
  pub cyclic : List Bool
  pub path : List ℕ
  pub bounds : List ℕ
  pub pending : List ℕ

abbrev pub state_of : Search → State
state_of search = record {
  marks = search.marks.items;
  followed = search.followed.items;
  cyclic = search.cyclic.items;
  path = search.path.items;
  bounds = search.bounds.items;
  pending = search.pending.items;
}

abbrev pub mark_of : State → ℕ → Mark
mark_of s v = slice_index_or s.marks v Unseen

abbrev pub followed_of : State → ℕ → ℕ
followed_of s v = slice_index s.followed v

abbrev pub is_cyclic : State → ℕ → Bool
is_cyclic s v = slice_index_or s.cyclic v false

-- how many edges leave v, and where each of them leads
abbrev pub degree : List (ℕ × ℕ) → ℕ → ℕ
degree edges v = length (edges_leaving edges v)

abbrev pub target : List (ℕ × ℕ) → ℕ → ℕ → ℕ
target edges v k = (slice_index_or (edges_leaving edges v) k (0, 0)).1

-- no segment begins after the place i and up to the place j
abbrev pub AreTogether : List ℕ → ℕ → ℕ → Type 0
AreTogether bounds i j = (bound : ℕ) → Contains bounds bound → i < bound → j < bound

-- an edge from the place i to w leads to no segment before that of i
abbrev pub IsSettled : State → ℕ → ℕ → Type 0
IsSettled s w i = (mark_of s w ≡ Done)
    ⊎ ((j : ℕ) × (mark_of s w ≡ OnPath j) × ((bound : ℕ) → Contains s.bounds bound → bound ≤ i → bound ≤ j))

pub record IsSearch (count : ℕ) (edges : List (ℕ × ℕ)) (s : State) : Type 0 where
  pub marks_len : length s.marks ≡ count
  pub followed_len : length s.followed ≡ count
  pub cyclic_len : length s.cyclic ≡ count
  -- the marks tell the places on the path
  pub place : (v i : ℕ) → mark_of s v ≡ OnPath i → (i < length s.path) × (slice_index s.path i ≡ v)
  pub marked : (i : ℕ) → i < length s.path → mark_of s (slice_index s.path i) ≡ OnPath i
  -- each number on the path reaches those after it, and those before it in its segment
  pub forward : (i j : ℕ) → i < j → j < length s.path → Reaches edges (slice_index s.path i) (slice_index s.path j)
  pub back : (i j : ℕ) → i < j → j < length s.path → AreTogether s.bounds i j → Reaches edges (slice_index s.path j) (slice_index s.path i)
  pub rising : AllPairs (λ x y. x < y) s.bounds
  pub bounds_within : (bound : ℕ) → Contains s.bounds bound → bound < length s.path
  pub first : 0 < length s.path → Contains s.bounds 0
  pub pending_rising : AllPairs (λ x y. x < y) s.pending
  pub pending_within : (place : ℕ) → Contains s.pending place → place < length s.path
  -- the edges that were followed, and what is left of the others
  pub fresh : (v : ℕ) → mark_of s v ≡ Unseen → followed_of s v ≡ 0
  pub followed_few : (v : ℕ) → followed_of s v ≤ degree edges v
  pub settled : (v i k : ℕ) → mark_of s v ≡ OnPath i → k < followed_of s v → IsSettled s (target edges v k) i
  pub loops : (v k : ℕ) → k < followed_of s v → target edges v k ≡ v → is_cyclic s v ≡ true
  pub exhausted : (v i : ℕ) → mark_of s v ≡ OnPath i → Contains s.pending i ⊎ (degree edges v ≤ followed_of s v)
  pub closed : (v k : ℕ) → mark_of s v ≡ Done → k < degree edges v → mark_of s (target edges v k) ≡ Done
  -- what is known of cycles
  pub sound : (v : ℕ) → is_cyclic s v ≡ true → Reaches edges v v
  pub complete : (v : ℕ) → mark_of s v ≡ Done → Reaches edges v v → is_cyclic s v ≡ true

-- v goes to the end of the path, as a segment of its own
abbrev pub enter : ℕ → State → State
enter v s = record s {
  marks = slice_set s.marks v (OnPath (length s.path));
  path = s.path ++ v ∷ [];
  bounds = s.bounds ++ length s.path ∷ [];
  pending = s.pending ++ length s.path ∷ [];
}

-- the segments from that of a place on become one
abbrev pub join : ℕ → State → State
join place s = record s { bounds = filter (λ bound. nat_le bound place) s.bounds }

-- the last segment, from its first place on, leaves the path
pub record Closes (bound : ℕ) (old new : State) : Type 0 where
  pub path : new.path ≡ take bound old.path
  pub bounds : new.bounds ≡ take (length old.bounds - 1) old.bounds
  pub followed : new.followed ≡ old.followed
  pub pending : new.pending ≡ old.pending
  pub marks_len : length new.marks ≡ length old.marks
  pub cyclic_len : length new.cyclic ≡ length old.cyclic
  pub marks : (v : ℕ) → mark_of new v ≡ (if list_any (nat_eq v) (drop bound old.path) then Done else mark_of old v)
  pub cyclic : (v : ℕ) → is_cyclic new v ≡ (if list_any (nat_eq v) (drop bound old.path) && nat_lt 1 (length (drop bound old.path)) then true else is_cyclic old v)

abbrev pub is_unseen : Mark → Bool
is_unseen Unseen = true
is_unseen (OnPath place) = false
is_unseen Done = false

-- what was seen stays so
abbrev pub KeepsSeen : State → State → Type 0
KeepsSeen old new = (v : ℕ) → is_unseen (mark_of old v) ≡ false → is_unseen (mark_of new v) ≡ false

-- an edge from v to itself sets the flag of v
abbrev pub note : ℕ → ℕ → State → State
note v w s = record s { cyclic = (if nat_eq w v then slice_set s.cyclic v true else s.cyclic) }

-- an edge from v leads to w, of which a mark is known
abbrev pub meet_at : ℕ → ℕ → State → Mark → State
meet_at v w s Unseen = enter w s
meet_at v w s (OnPath place) = join place (note v w s)
meet_at v w s Done = s

abbrev pub meet : ℕ → ℕ → State → State
meet v w s = meet_at v w s (mark_of s w)

-- how many edges are left to follow, where the list begins at v
abbrev pub edges_left : List (ℕ × ℕ) → ℕ → List ℕ → ℕ
edges_left edges v [] = 0
edges_left edges v (followed ∷ more) = (degree edges v - followed) + edges_left edges (suc v) more

-- what falls with each step
abbrev pub work_left : List (ℕ × ℕ) → State → ℕ
work_left edges s = 3 * count_by is_unseen s.marks + edges_left edges 0 s.followed + length s.pending + length s.path
