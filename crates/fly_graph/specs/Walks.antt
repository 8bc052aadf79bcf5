-- Walks along the edges of a directed graph. An edge (u, v) leads from u to v.
use Rattle.std.specs.Prelude.{ℕ, List, [], ◌∷◌, Contains}

-- the list has the edge from u to v
abbrev pub IsEdge : List (ℕ × ℕ) → ℕ → ℕ → Type 0
IsEdge edges u v = Contains edges (u, v)

-- a walk from u to v, by the numbers between them
abbrev pub IsWalk : List (ℕ × ℕ) → ℕ → List ℕ → ℕ → Type 0
IsWalk edges u [] v = IsEdge edges u v
IsWalk edges u (w ∷ between) v = IsEdge edges u w × IsWalk edges w between v

-- u reaches v by one or more edges
abbrev pub Reaches : List (ℕ × ℕ) → ℕ → ℕ → Type 0
Reaches edges u v = (between : List ℕ) × IsWalk edges u between v
