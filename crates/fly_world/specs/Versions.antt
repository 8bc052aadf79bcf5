-- What a world keeps that goes by a plan: its names are ids and distinct, its versions and views are of the plan, and
-- its literals are of the
-- declared types.
use Rattle.std.specs.Prelude.{◌≡◌, ◌≢◌, ◌⊎◌, ℕ, ◌≤◌, Bool, true, false, ◌||◌, List, [], map, length, slice_get, All, AllPairs, Contains, Some, is_some}
use Rattle.fly_types.specs.declared.text.Text.{Text}
use Rattle.fly_types.specs.declared.literals.LiteralMap.{LiteralMap}
use Rattle.fly_docs.specs.declared.attempt_name.AttemptName.{AttemptName}
use Rattle.fly_docs.specs.declared.workflow.Workflow.{Workflow}
use Rattle.fly_docs.specs.Lookups.{primary_of}
use Rattle.fly_docs.specs.Names.{IsId}
use Rattle.fly_docs.specs.Plans.{PlanNode, is_array}
use Rattle.fly_policy.specs.Outcome.{AreOutputs}
use Rattle.fly_policy.specs.declared.outcome.Outcome.TheVariants as outcome
use Rattle.fly_state.specs.declared.phase.Phase.{Phase}
use Rattle.fly_state.specs.declared.phase.Phase.TheVariants as phase
use Rattle.fly_state.specs.declared.slots.SlotState.{SlotState}
use Rattle.fly_state.specs.declared.slots.NodeState.{NodeState}
use Rattle.fly_state.specs.declared.slots.ExecState.{ExecState}
use Rattle.fly_state.specs.States.{is_succeeded}
use Rattle.fly_state.specs.Moves.{is_succeeding}
use Rattle.fly_state.specs.Plans.{RunPlan, number_of, node_numbered}
use Rattle.fly_state.specs.OfPlan.{IsViewOfPlan, item_input_variables, item_output_variables}
use Rattle.fly_world.specs.ReadOff.{versions_of}
use Rattle.fly_world.specs.Spots.{has_attempts}
use Rattle.fly_world.specs.World.{World, Execution, Launch, Settlement, current_of, execution_named, view_of}

abbrev pub execution_names : World → List Text
execution_names w = map (λ (x : Execution). x.name) w.executions

-- the attempt's node in the plan
abbrev pub IsNodeOfAttempt : RunPlan → AttemptName → PlanNode → Type 0
IsNodeOfAttempt plan name p = (i : ℕ) × (number_of plan name.path ≡ Some i) × (node_numbered plan i ≡ Some p)

-- each submitted input is of its declared type, and so is each output that an attempt came to
pub record HasTypedRecords (plan : RunPlan) (w : World) : Type 0 where
  pub submitted : (x : Execution) (wanted : Workflow) → Contains w.executions x → primary_of plan.documents
      ≡ Some wanted
      → AreOutputs wanted.interface.inputs x.inputs
  pub recorded : (s : Settlement) (p : PlanNode) (outputs : LiteralMap) → Contains w.outcomes s → s.outcome
      ≡ outcome.Succeeded outputs
      → IsNodeOfAttempt plan s.name p → AreOutputs (item_output_variables plan p) outputs

-- each input of a launch is of the type that its task declares
abbrev pub HasTypedLaunches : RunPlan → World → Type 0
HasTypedLaunches plan w =
    (l : Launch) (p : PlanNode) → Contains w.launches l → IsNodeOfAttempt plan l.name p
    → AreOutputs (item_input_variables plan p) l.inputs

-- an attempt of one of these executions, at a node that has attempts
abbrev pub IsNameOfPlan : RunPlan → List Text → AttemptName → Type 0
IsNameOfPlan plan executions name =
    (p : PlanNode) × IsNodeOfAttempt plan name p × (has_attempts p.node name.item ≡ true)
    × Contains executions name.exec

-- executions have ids as names, no two the same, and what is launched is an attempt of theirs
pub record HasNamesOfPlan (plan : RunPlan) (w : World) : Type 0 where
  pub ids : All IsId (execution_names w)
  pub distinct : AllPairs (λ a b. a ≢ b) (execution_names w)
  pub launched : All (λ (l : Launch). IsNameOfPlan plan (execution_names w) l.name) w.launches

-- it gave its outputs: it succeeded, or they are being stored
abbrev pub has_given : Phase → Bool
has_given f = is_succeeded f || is_succeeding f

-- a slot that gave its outputs has them
abbrev pub IsComplete : SlotState → Type 0
IsComplete slot = has_given slot.phase ≡ true → is_some slot.outputs ≡ true

pub record AreAllComplete (s : ExecState) : Type 0 where
  pub root : IsComplete s.root
  pub nodes : (i : ℕ) (n : NodeState) → slice_get s.nodes i ≡ Some n → IsComplete n.own × All IsComplete n.items

-- a root runs until it succeeds or fails
abbrev pub is_root_phase : Phase → Bool
is_root_phase phase.Running = true
is_root_phase phase.Succeeded = true
is_root_phase phase.Failed = true
is_root_phase _ = false

-- A state with as many nodes as the plan, of which arrays alone have items; with the submitted inputs at the root, which
-- runs, has succeeded or has failed; whose slots are complete.
pub record IsShaped (plan : RunPlan) (inputs : LiteralMap) (s : ExecState) : Type 0 where
  pub count : length s.nodes ≡ length plan.nodes
  pub arrays : (i : ℕ) (n : NodeState) (p : PlanNode) → slice_get s.nodes i ≡ Some n → node_numbered plan i ≡ Some p
      → (n.items ≡ []) ⊎ (is_array p.node ≡ true)
  pub inputs_are : s.root.inputs ≡ Some inputs
  pub root_phase : is_root_phase s.root.phase ≡ true
  pub complete : AreAllComplete s

-- each version is so
abbrev pub HasShapedVersions : RunPlan → World → Type 0
HasShapedVersions plan w = (x : Execution) (s : ExecState) → Contains w.executions x → Contains (versions_of x) s
    → IsShaped plan x.inputs s

pub record IsWorldOfPlan (plan : RunPlan) (w : World) : Type 0 where
  pub names : HasNamesOfPlan plan w
  pub records : HasTypedRecords plan w
  pub launches : HasTypedLaunches plan w
  -- each version is of the plan, with what was known while it was current
  pub views : (exec : Text) (at : ℕ × Execution) (version : ℕ) → execution_named w exec ≡ Some at
      → version ≤ current_of at.1
      → IsViewOfPlan plan (view_of w at version)
