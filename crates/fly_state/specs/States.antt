-- The states of an execution: its first version, what stands in its slots, and which of its instances are broken.
use Rattle.std.specs.Prelude.{ℕ, Bool, true, false, not, ◌&&◌, [], ◌∷◌, map, slice_get, unwrap_or, bytes_eq, Option, Some, None, option_and_then, if◌then◌else◌}
use Rattle.std.specs.List.{list_any, enumerate_from, starts_with}
use Rattle.fly_types.specs.declared.literals.LiteralMap.{LiteralMap}
use Rattle.fly_docs.specs.Names.{start_node}
use Rattle.fly_docs.specs.Plans.{PlanNode}
use Rattle.fly_docs.specs.SlotInputs.{Known}
use Rattle.fly_state.specs.declared.phase.Phase.{Phase}
use Rattle.fly_state.specs.declared.phase.Phase.TheVariants as phase
use Rattle.fly_state.specs.declared.slots.SlotState.{SlotState}
use Rattle.fly_state.specs.declared.slots.NodeState.{NodeState}
use Rattle.fly_state.specs.declared.slots.ExecState.{ExecState}
use Rattle.fly_state.specs.Plans.{RunPlan, Path, instance_of, number_in, number_of}

-- ---- the first version

-- a slot in which nothing has happened
abbrev pub fresh_slot : SlotState
fresh_slot = record { phase = phase.NotYetStarted; attempt = 0; choice = None; inputs = None; outputs = None; code = None }

abbrev pub fresh_node : NodeState
fresh_node = record { own = fresh_slot; items = [] }

-- version 0: the root runs with what was submitted, and nothing has happened elsewhere
abbrev pub first_state : RunPlan → LiteralMap → ExecState
first_state plan inputs = record {
  root = record fresh_slot { phase = phase.Running; inputs = Some inputs };
  nodes = map (λ (p : PlanNode). fresh_node) plan.nodes;
}

-- ---- slots

-- the state of the node of this number
abbrev pub node_state : ExecState → ℕ → NodeState
node_state s i = unwrap_or (slice_get s.nodes i) fresh_node

abbrev pub own_state : ExecState → ℕ → SlotState
own_state s i = (node_state s i).own

abbrev pub phase_of : ExecState → ℕ → Phase
phase_of s i = (own_state s i).phase

-- the phases that never change
abbrev pub is_final : Phase → Bool
is_final phase.Succeeded = true
is_final phase.Failed = true
is_final phase.TimedOut = true
is_final phase.Skipped = true
is_final phase.Aborted = true
is_final _ = false

-- failed, by itself or by its time
abbrev pub is_failure : Phase → Bool
is_failure phase.Failed = true
is_failure phase.TimedOut = true
is_failure _ = false

abbrev pub is_not_yet_started : Phase → Bool
is_not_yet_started phase.NotYetStarted = true
is_not_yet_started _ = false

abbrev pub is_running : Phase → Bool
is_running phase.Running = true
is_running _ = false

abbrev pub is_succeeded : Phase → Bool
is_succeeded phase.Succeeded = true
is_succeeded _ = false

abbrev pub is_skipped : Phase → Bool
is_skipped phase.Skipped = true
is_skipped _ = false

-- the outputs of a slot that succeeded
abbrev pub outputs_in : SlotState → Option LiteralMap
outputs_in slot = if is_succeeded slot.phase then slot.outputs else None

-- ---- instances

-- the slot that stands for an instance: the root, or the workflow node
abbrev pub instance_state : RunPlan → ExecState → Path → SlotState
instance_state plan s [] = s.root
instance_state plan s (id ∷ ids) = of_number (number_of plan (id ∷ ids))
  where
    of_number : Option ℕ → SlotState
    of_number (Some i) = own_state s i
    of_number None = fresh_slot

-- the instance is that of the path, or stands inside it, at any depth
abbrev pub is_within : Path → Path → Bool
is_within instance outer = starts_with bytes_eq instance outer

-- the node failed, in a workflow that then fails at once
abbrev pub is_breaking : ExecState → ℕ × PlanNode → Bool
is_breaking s at = not at.1.workflow.fail_late && is_failure (phase_of s at.0)

-- a node of the instance is such a one, or a node of an instance around it
abbrev pub is_broken : RunPlan → ExecState → Path → Bool
is_broken plan s instance =
    list_any (λ (at : ℕ × PlanNode). is_breaking s at && is_within instance (instance_of at.1)) (enumerate_from 0 plan.nodes)

-- What is known in an instance: under `start-node` its inputs, and the outputs of its nodes that succeeded.
abbrev pub known_in : RunPlan → ExecState → Path → Known
known_in plan s instance id =
    if bytes_eq id start_node
    then (instance_state plan s instance).inputs
    else option_and_then (λ i. outputs_in (own_state s i)) (number_in plan instance id)
