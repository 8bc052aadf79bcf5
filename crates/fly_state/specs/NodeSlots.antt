-- What a step makes of a node's own slot.
use Rattle.std.specs.Prelude.{◌≡◌, ℕ, List, IsTrue, Some, is_some}
use Rattle.fly_docs.specs.Plans.{PlanNode}
use Rattle.fly_state.specs.declared.slots.SlotState.{SlotState}
use Rattle.fly_state.specs.declared.moves.Step.{Step}
use Rattle.fly_state.specs.declared.entries.Entry.{Entry}
use Rattle.fly_state.specs.declared.view.View.{View}
use Rattle.fly_state.specs.Plans.{RunPlan, node_numbered}
use Rattle.fly_state.specs.Moves.{of_slot, node_effect}

-- the step has an effect on the node of this number
abbrev pub HasEffect : RunPlan → View → List Entry → ℕ → Step → Type 0
HasEffect plan v entries i step =
    (p : PlanNode) → node_numbered plan i ≡ Some p → IsTrue (is_some (node_effect plan v entries i p step))

-- the step makes this of the node's own slot
abbrev pub MakesSlot : RunPlan → View → List Entry → ℕ → Step → SlotState → Type 0
MakesSlot plan v entries i step slot =
    (p : PlanNode) → node_numbered plan i ≡ Some p → node_effect plan v entries i p step ≡ Some (of_slot slot)
