-- Walks joined end to end, and carried from one list of edges to another.
use Rattle.std.proofs.Common.{ℕ, List, [], ◌∷◌, ◌++◌}
use Rattle.fly_graph.specs.Walks.{IsEdge, IsWalk, Reaches}

module _ (edges : List (ℕ × ℕ)) where
  pub reaches_by_edge : (u v : ℕ) → IsEdge edges u v → Reaches edges u v
  reaches_by_edge u v e = ([], e)

  pub IsWalk-append : (u : ℕ) (before : List ℕ) (v : ℕ) (after : List ℕ) (w : ℕ) → IsWalk edges u before v → IsWalk edges v after w → IsWalk edges u (before ++ v ∷ after) w
  IsWalk-append u [] v after w first second = (first, second)
  IsWalk-append u (x ∷ before) v after w first second = (first.0, IsWalk-append x before v after w first.1 second)

  pub reaches_trans : (u v w : ℕ) → Reaches edges u v → Reaches edges v w → Reaches edges u w
  reaches_trans u v w first second = (first.0 ++ v ∷ second.0, IsWalk-append u first.0 v second.0 w first.1 second.1)

pub IsWalk-along : (edges others : List (ℕ × ℕ)) → ((u v : ℕ) → IsEdge edges u v → IsEdge others u v) → (u : ℕ) (between : List ℕ) (v : ℕ) → IsWalk edges u between v → IsWalk others u between v
IsWalk-along edges others h u [] v walk = h u v walk
IsWalk-along edges others h u (w ∷ between) v walk = (h u w walk.0, IsWalk-along edges others h w between v walk.1)

pub reaches_along : (edges others : List (ℕ × ℕ)) → ((u v : ℕ) → IsEdge edges u v → IsEdge others u v) → (u v : ℕ) → Reaches edges u v → Reaches others u v
reaches_along edges others h u v walk = (walk.0, IsWalk-along edges others h u walk.0 v walk.1)

-- what holds at the end of each edge that begins where it holds is true of whatever is reached from there
pub holds_along : (edges : List (ℕ × ℕ)) (P : ℕ → Type 0) → ((u v : ℕ) → P u → IsEdge edges u v → P v) → (u : ℕ) (between : List ℕ) (v : ℕ) → P u → IsWalk edges u between v → P v
holds_along edges P h u [] v p walk = h u v p walk
holds_along edges P h u (w ∷ between) v p walk = holds_along edges P h w between v (h u w p walk.0) walk.1
