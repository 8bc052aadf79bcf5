-- Lists that only grow, and calls that stand in them at their places.
use Rattle.std.specs.Prelude.{◌≡◌, ℕ, ◌+◌, List, [], ◌∷◌, ◌++◌, length, cond, eqb, ltb, Some, slice_get, All, count_by}

-- the list begins with these entries
abbrev pub StartsWith : {E : Type 0} → List E → List E → Type 0
StartsWith {E} list beginning = (rest : List E) × (list ≡ beginning ++ rest)

-- the list has one entry more
abbrev pub AddsOne : {E : Type 0} → List E → List E → Type 0
AddsOne {E} before after = (entry : E) × (after ≡ before ++ entry ∷ [])

-- the longer of two lists
abbrev pub longer_of : {E : Type 0} → List E → List E → List E
longer_of one other = cond (ltb (length one) (length other)) other one

-- each call's entry stands at its place in the list
abbrev pub HasCalls : {E : Type 0} → List E → List (ℕ × E) → Type 0
HasCalls list calls = All (λ call. slice_get list call.0 ≡ Some call.1) calls

-- how many of the calls have the place
abbrev pub times_at : {E : Type 0} → ℕ → List (ℕ × E) → ℕ
times_at place calls = count_by (λ call. eqb call.0 place) calls

-- 1 for the numbers from `from` on and below `to`, and else 0
abbrev pub one_within : ℕ → ℕ → ℕ → ℕ
one_within from to x = cond (ltb x from) 0 (cond (ltb x to) 1 0)

-- After the opening the list has just these calls, each once at its place
pub record IsMadeOf {E : Type 0} (list opening : List E) (calls : List (ℕ × E)) : Type 0 where
  pub begins : StartsWith list opening
  pub number : length list ≡ length opening + length calls
  pub once : (place : ℕ) → times_at place calls ≡ one_within (length opening) (length list) place
  pub at : HasCalls list calls
