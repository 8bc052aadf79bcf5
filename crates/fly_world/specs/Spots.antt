-- What operations name: executions, nodes of the plan and attempts; and what holds of them in the current version.
use Rattle.std.specs.Prelude.{ℕ, ◌==◌, ℤ, pos, ◌-ℤ◌, int_lt, Bool, true, false, not, ◌&&◌, ◌||◌, if◌then◌else◌, List, [], ◌∷◌, bytes_eq, Option, Some, None, option_map, option_and_then, option_to_list, unwrap_or, Ok}
use Rattle.std.specs.List.{list_any, list_all, enumerate_from}
use Rattle.fly_types.specs.declared.text.Text.{Text}
use Rattle.fly_types.specs.declared.variable.Variable.{Variable}
use Rattle.fly_types.specs.declared.literals.Literal.{Literal}
use Rattle.fly_types.specs.declared.literals.LiteralMap.{LiteralMap}
use Rattle.fly_types.specs.Same.{same_map}
use Rattle.fly_cast.specs.Fitting.{is_of}
use Rattle.fly_docs.specs.declared.node.Node.{Node}
use Rattle.fly_docs.specs.declared.task.Task.{Task}
use Rattle.fly_docs.specs.declared.attempt_name.AttemptName.{AttemptName}
use Rattle.fly_docs.specs.Templates.{is_id_text}
use Rattle.fly_docs.specs.Plans.{PlanNode, is_array}
use Rattle.fly_docs.specs.SlotInputs.{Taken}
use Rattle.fly_catalog.specs.Cached.{cached_tag, owner_text}
use Rattle.fly_state.specs.declared.phase.Phase.{Phase}
use Rattle.fly_state.specs.declared.slots.SlotState.{SlotState}
use Rattle.fly_state.specs.declared.moves.At.{At}
use Rattle.fly_state.specs.Plans.{RunPlan, Path, node_numbered, number_of, is_task, task_of}
use Rattle.fly_state.specs.States.{own_state, phase_of, is_final, is_running}
use Rattle.fly_state.specs.Inputs.{inputs_at}
use Rattle.fly_state.specs.Moves.{where_true, task_run_by}
use Rattle.fly_state.specs.Laws.{slot_at}
use Rattle.fly_world.specs.World.{World, Execution, Claim, execution_named, is_over}

-- ---- ids

-- a path has ids, and at least one
abbrev pub is_path_of_ids : Path → Bool
is_path_of_ids [] = false
is_path_of_ids (id ∷ ids) = list_all is_id_text (id ∷ ids)

-- the name of an execution and a path, as they may stand in an entry
abbrev pub are_ids : Text → Path → Bool
are_ids exec path = is_id_text exec && is_path_of_ids path

-- ---- literals of declared types

-- the entry gives the variable: under its name, a literal of its type
abbrev pub is_given : Variable → Text × Literal → Bool
is_given x entry = bytes_eq entry.0 x.name && is_of x.kind entry.1

abbrev pub are_given : List Variable → List (Text × Literal) → Bool
are_given [] [] = true
are_given (x ∷ xs) (entry ∷ entries) = is_given x entry && are_given xs entries
are_given _ _ = false

-- the map gives each variable at its place, and nothing else; both are sorted by name
abbrev pub gives_all : List Variable → LiteralMap → Bool
gives_all variables m = are_given variables m.entries

-- ---- nodes

-- A node of the plan in an execution: the execution with its number, the node's number, and the node.
pub record Spot : Type 0 where
  pub execution : ℕ × Execution
  pub number : ℕ
  pub node : PlanNode

abbrev pub spot_numbered : RunPlan → ℕ × Execution → ℕ → Option Spot
spot_numbered plan at i = option_map (λ p. record { execution = at; number = i; node = p }) (node_numbered plan i)

-- the node of the plan that has the path, in the execution of the name; none where either is not there
abbrev pub spot_of : RunPlan → World → Text → Path → Option Spot
spot_of plan w exec path =
    option_and_then (λ at. option_and_then (spot_numbered plan at) (number_of plan path)) (execution_named w exec)

-- the node's slot in the current version
abbrev pub slot_of : Spot → SlotState
slot_of spot = own_state spot.execution.1.state spot.number

abbrev pub phase_at : Spot → Phase
phase_at spot = (slot_of spot).phase

-- ---- attempts

-- attempts are those of task nodes and of the items of arrays
abbrev pub has_attempts : Node → Option ℕ → Bool
has_attempts n None = is_task n
has_attempts n (Some item) = is_array n

abbrev pub where_named : AttemptName → Spot → Option Spot
where_named name spot = where_true (has_attempts spot.node.node name.item) (Some spot)

-- the node of an attempt that is of the plan and the submissions
abbrev pub attempt_spot : RunPlan → World → AttemptName → Option Spot
attempt_spot plan w name = option_and_then (where_named name) (spot_of plan w name.exec name.path)

-- the slot of an attempt
abbrev pub attempt_at : Spot → AttemptName → At
attempt_at spot name = record { node = Some spot.number; item = name.item }

-- the current version has the slot running at that attempt
abbrev pub runs : Spot → AttemptName → Bool
runs spot name =
    list_any (λ (slot : SlotState). is_running slot.phase && slot.attempt == name.attempt)
    (option_to_list (slot_at spot.execution.1.state (attempt_at spot name)))

abbrev pub is_value : Taken LiteralMap → LiteralMap → Bool
is_value (Ok wanted) inputs = same_map wanted inputs
is_value _ inputs = false

-- the inputs are those of the attempt's slot in the current version
abbrev pub has_inputs : RunPlan → Spot → AttemptName → LiteralMap → Bool
has_inputs plan spot name inputs = is_value (inputs_at plan spot.execution.1.state (attempt_at spot name)) inputs

-- the timeout of the attempts of a node, in milliseconds: its own counts, and where that is 0 its task's; 0 is none
abbrev pub timeout_of : RunPlan → PlanNode → ℕ
timeout_of plan p =
    if p.node.timeout_ms == 0 then unwrap_or
    (option_map (λ (t : Task). t.timeout_ms) (task_run_by plan p)) 0 else p.node.timeout_ms

-- the timeout is over at this moment for what was claimed
abbrev pub is_due : ℕ → ℤ → Claim → Bool
is_due timeout moment c = not (timeout == 0) && not (int_lt (moment -ℤ c.moment) (pos timeout))

-- ---- the cache

-- the task of a node whose outputs are cached
abbrev pub cached_task : RunPlan → PlanNode → Option Task
cached_task plan p = option_and_then (λ (t : Task). where_true t.cached (Some t)) (task_of plan p)

-- what a slot took; nothing where it has taken none
abbrev pub taken_in : SlotState → LiteralMap
taken_in slot = unwrap_or slot.inputs (record { entries = [] })

-- what a slot gave; nothing where it has given none
abbrev pub given_in : SlotState → LiteralMap
given_in slot = unwrap_or slot.outputs (record { entries = [] })

-- the tag of the outputs of a node, by what it took
abbrev pub tag_at : Spot → Text
tag_at spot = cached_tag (taken_in (slot_of spot))

-- the owner of a node's reservation
abbrev pub owner_at : Spot → Text
owner_at spot = owner_text spot.execution.1.name spot.node.path

-- the owner is this node of the execution, which is final or stands in one that is over
abbrev pub is_ended_at : Text → Execution → ℕ × PlanNode → Bool
is_ended_at owner x at = bytes_eq owner (owner_text x.name at.1.path) &&
    (is_over x || is_final (phase_of x.state at.0))

abbrev pub is_ended_in : RunPlan → Text → Execution → Bool
is_ended_in plan owner x = list_any (is_ended_at owner x) (enumerate_from 0 plan.nodes)

-- the owner of a reservation is final in the current version, or its execution is over
abbrev pub is_ended : RunPlan → World → Text → Bool
is_ended plan w owner = list_any (is_ended_in plan owner) w.executions
