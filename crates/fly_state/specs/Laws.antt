-- The laws of moves, and of the states that they lead to.
use Rattle.std.specs.Prelude.{◌≡◌, ℕ, false, List, slice_get, Contains, Option, Some, None, option_map, option_and_then}
use Rattle.fly_types.specs.declared.literals.LiteralMap.{LiteralMap}
use Rattle.fly_docs.specs.declared.workflow.Workflow.{Workflow}
use Rattle.fly_docs.specs.Lookups.{primary_of}
use Rattle.fly_policy.specs.Outcome.{AreOutputs}
use Rattle.fly_state.specs.declared.slots.SlotState.{SlotState}
use Rattle.fly_state.specs.declared.slots.NodeState.{NodeState}
use Rattle.fly_state.specs.declared.slots.ExecState.{ExecState}
use Rattle.fly_state.specs.declared.moves.At.{At}
use Rattle.fly_state.specs.declared.moves.Move.{Move}
use Rattle.fly_state.specs.declared.entries.Entry.{Entry}
use Rattle.fly_state.specs.declared.view.View.{View}
use Rattle.fly_state.specs.Plans.{RunPlan}
use Rattle.fly_state.specs.PlanTables.{IsOuterPlan}
use Rattle.fly_state.specs.States.{is_final, first_state}
use Rattle.fly_state.specs.Moves.{Effect, effect_of}
use Rattle.fly_state.specs.OfPlan.{IsOfPlan, IsViewOfPlan, HasFaultlessRetries, IsEntryOfPlan}
use Rattle.fly_state.specs.Rounds.{CitedMove, state_after}

-- the slot, where the state has it
abbrev pub slot_at : ExecState → At → Option SlotState
slot_at s at = by at.node at.item
  where
    by : Option ℕ → Option ℕ → Option SlotState
    by None None = Some s.root
    by None (Some item) = None
    by (Some i) None = option_map (λ (n : NodeState). n.own) (slice_get s.nodes i)
    by (Some i) (Some item) = option_and_then (λ (n : NodeState). slice_get n.items item) (slice_get s.nodes i)

-- a legal move is on a slot that is not final
abbrev pub MovesNothingFinal : Type 0
MovesNothingFinal =
    (plan : RunPlan) (v : View) (entries : List Entry) (m : Move) (e : Effect) (slot : SlotState) → effect_of plan v entries m ≡ Some e
    → slot_at v.state m.at ≡ Some slot → is_final slot.phase ≡ false

-- ---- states of the plan

-- a state of the plan in which a node that may be tried again has inputs without fault, so that its next attempt has them too
pub record IsKeptState (plan : RunPlan) (s : ExecState) : Type 0 where
  pub of_plan : IsOfPlan plan s
  pub retries : HasFaultlessRetries plan s

-- version 0 is such a state, where the inputs are those of the workflow
abbrev pub FirstStatesAreOfPlan : Type 0
FirstStatesAreOfPlan =
    (plan : RunPlan) (w : Workflow) (inputs : LiteralMap) → primary_of plan.documents ≡ Some w → AreOutputs w.interface.inputs inputs
    → IsKeptState plan (first_state plan inputs)

-- In a plan of task nodes moves lead from such a state to another, where the entries that they cite are of the plan. A move that is not legal
-- changes nothing.
abbrev pub RoundsStayOfPlan : Type 0
RoundsStayOfPlan =
    (plan : RunPlan) (w : Workflow) (v : View) (moves : List CitedMove) → IsOuterPlan plan w → IsViewOfPlan plan v → HasFaultlessRetries plan v.state
    → ((m : CitedMove) (e : Entry) → Contains moves m → Contains m.entries e → IsEntryOfPlan plan e)
    → IsKeptState plan (state_after plan v moves)
