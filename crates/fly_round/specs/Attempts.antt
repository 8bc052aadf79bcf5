-- Where the present attempt of each node stands among the launches of a view.
use Rattle.std.specs.Prelude.{◌≡◌, ℕ, ◌==◌, Bool, false, List, position, slice_get, Option, Some, None}
use Rattle.fly_docs.specs.Plans.{PlanNode}
use Rattle.fly_state.specs.declared.view.View.{View}
use Rattle.fly_state.specs.declared.view.Known.{Known}
use Rattle.fly_state.specs.Plans.{RunPlan, node_numbered}
use Rattle.fly_state.specs.States.{own_state}
use Rattle.fly_state.specs.Moves.{is_attempt}

-- it is this number
abbrev pub is_number : ℕ → Option ℕ → Bool
is_number i (Some number) = i == number
is_number i None = false

-- the launch is of the present attempt of the node
abbrev pub is_present : View → ℕ → PlanNode → Known → Bool
is_present v i p k = is_attempt v p None (own_state v.state i).attempt k.name

-- the list has for each node the place of the first such launch
abbrev pub HasAttempts : RunPlan → View → List (Option ℕ) → Type 0
HasAttempts plan v attempts =
    (i : ℕ) (p : PlanNode) → node_numbered plan i ≡ Some p → slice_get attempts i ≡ Some (position (is_present v i p) v.launches)
