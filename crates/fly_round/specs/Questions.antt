-- What a round asks: of each node of the plan in turn its questions at a view, of which one may depend on what was told
-- before it.
use Rattle.std.specs.Prelude.{◌≡◌, ℕ, ◌==◌, ◌≤◌, Bool, not, ◌&&◌, if◌then◌else◌, List, [], ◌++◌, length, flat_map, filter_map, find, slice_get, Contains, All, Option, Some, None, option_map, option_to_list, is_none, unwrap_or, ⊤}
use Rattle.std.specs.List.{list_any, enumerate_from}
use Rattle.fly_types.specs.declared.text.Text.{Text}
use Rattle.fly_types.specs.declared.literals.LiteralMap.{LiteralMap}
use Rattle.fly_docs.specs.declared.attempt_name.AttemptName.{AttemptName}
use Rattle.fly_docs.specs.declared.task.Task.{Task}
use Rattle.fly_docs.specs.Names.{IsId}
use Rattle.fly_docs.specs.Plans.{PlanNode}
use Rattle.fly_state.specs.declared.phase.Phase.{Phase}
use Rattle.fly_state.specs.declared.phase.Phase.TheVariants as phase
use Rattle.fly_state.specs.declared.slots.SlotState.{SlotState}
use Rattle.fly_state.specs.declared.entries.Entry.{Entry}
use Rattle.fly_state.specs.declared.entries.Op.{Op}
use Rattle.fly_state.specs.declared.entries.Op.TheVariants as op
use Rattle.fly_state.specs.declared.view.View.{View}
use Rattle.fly_state.specs.declared.view.Known.{Known}
use Rattle.fly_state.specs.Plans.{RunPlan, Path, instance_of, is_task, task_of}
use Rattle.fly_state.specs.States.{node_state, own_state, phase_of, is_running, is_broken}
use Rattle.fly_state.specs.Inputs.{inputs_of_node, value_in}
use Rattle.fly_state.specs.Moves.{where_true, is_cached, is_miss, is_attempt, task_run_by}
use Rattle.fly_round.specs.declared.told.Told.{Told}

-- A question of a round, on a node of the view's execution by its path; an attempt has the number of its item, where
-- it is one of an item, and its own.
pub data Question : Type 0 where
  look_up : Path → Question
  reserve : Path → Question
  launch : Path → Option ℕ → ℕ → LiteralMap → Question
  expire : Path → Option ℕ → ℕ → Question
  put : Path → Question

-- ---- questions and operations

-- the name is that of the attempt in the execution
pub record IsNameOf (exec : Text) (path : Path) (item : Option ℕ) (attempt : ℕ) (name : AttemptName) : Type 0 where
  pub exec_is : name.exec ≡ exec
  pub path_is : name.path ≡ path
  pub item_is : name.item ≡ item
  pub attempt_is : name.attempt ≡ attempt

-- the operation asks the question, in the execution
abbrev pub Asks : Text → Question → Op → Type 0
Asks exec (look_up path) (op.Lookup e p) = (e ≡ exec) × (p ≡ path)
Asks exec (reserve path) (op.Reserve e p) = (e ≡ exec) × (p ≡ path)
Asks exec (launch path item attempt inputs) (op.Launch name i) = IsNameOf exec path item attempt name × (i ≡ inputs)
Asks exec (expire path item attempt) (op.Expire name) = IsNameOf exec path item attempt name
Asks exec (put path) (op.Put e p) = (e ≡ exec) × (p ≡ path)
Asks _ _ _ = ⊥

-- the operation asks the question where there is one, and else there is no operation
abbrev pub AsksWhere : Text → Option Question → Option Op → Type 0
AsksWhere exec (Some q) (Some o) = Asks exec q o
AsksWhere exec None None = ⊤
AsksWhere _ _ _ = ⊥

-- ---- what was told

-- the entry of an answer, by whichever worker
abbrev pub entry_of : Told → Entry
entry_of t = record { worker = 0; op = t.op; reply = t.reply }

-- it was told that the catalog lacks the outputs of the node
abbrev pub is_missed : View → List Told → PlanNode → Bool
is_missed v told p = list_any (λ t. is_miss v p (entry_of t)) told

-- ---- the questions of a slot

-- the node's task is cached, and runs only with a reservation
abbrev pub is_reserved : RunPlan → PlanNode → Bool
is_reserved plan p = list_any (λ (t : Task). t.cached && t.serializable) (option_to_list (task_of plan p))

-- the timeout of the attempts of a node, in milliseconds: its own counts, and where that is 0 its task's; 0 is none
abbrev pub timeout_of : RunPlan → PlanNode → ℕ
timeout_of plan p =
    if p.node.timeout_ms == 0
    then unwrap_or (option_map (λ (t : Task). t.timeout_ms) (task_run_by plan p)) 0
    else p.node.timeout_ms

-- the attempt in the view, where it was launched
abbrev pub known_attempt : View → PlanNode → Option ℕ → ℕ → Option Known
known_attempt v p item attempt = find (λ (k : Known). is_attempt v p item attempt k.name) v.launches

-- of an attempt that runs: its launch, where the view has none; and while it has no outcome, its end by its timeout
abbrev pub question_by : RunPlan → View → PlanNode → Option ℕ → ℕ → Option Known → Option Question
question_by plan v p item attempt None = option_map (launch p.path item attempt) (value_in (inputs_of_node plan v.state p item))
question_by plan v p item attempt (Some k) =
    where_true (is_none k.outcome && not (timeout_of plan p == 0)) (Some (expire p.path item attempt))

abbrev pub attempt_question : RunPlan → View → PlanNode → Option ℕ → ℕ → Option Question
attempt_question plan v p item attempt = question_by plan v p item attempt (known_attempt v p item attempt)

-- the first question of a node, by its phase
abbrev pub first_in : RunPlan → View → ℕ × PlanNode → Phase → Option Question
first_in plan v at phase.Queued = where_true (is_cached plan at.1) (Some (look_up at.1.path))
first_in plan v at phase.Running =
    where_true (is_task at.1.node) (attempt_question plan v at.1 None (own_state v.state at.0).attempt)
first_in plan v at phase.Succeeding = Some (put at.1.path)
first_in plan v at _ = None

abbrev pub first_question : RunPlan → View → ℕ × PlanNode → Option Question
first_question plan v at = first_in plan v at (phase_of v.state at.0)

-- the second: a reservation, for a node that is queued only once the catalog was found to lack its outputs
abbrev pub second_in : RunPlan → Bool → ℕ × PlanNode → Phase → Option Question
second_in plan missed at phase.Queued = where_true (is_reserved plan at.1 && missed) (Some (reserve at.1.path))
second_in plan missed at phase.Running = where_true (is_reserved plan at.1) (Some (reserve at.1.path))
second_in plan missed at _ = None

abbrev pub second_question : RunPlan → View → List Told → ℕ × PlanNode → Option Question
second_question plan v told at = second_in plan (is_missed v told at.1) at (phase_of v.state at.0)

-- the question of an item
abbrev pub item_question : RunPlan → View → PlanNode → ℕ × SlotState → Option Question
item_question plan v p at = where_true (is_running at.1.phase) (attempt_question plan v p (Some at.0) at.1.attempt)

-- ---- the questions of a round

-- of a node, and then of its items; none in a broken instance
abbrev pub node_questions : RunPlan → View → List Told → ℕ × PlanNode → List Question
node_questions plan v told at =
    if is_broken plan v.state (instance_of at.1)
    then []
    else option_to_list (first_question plan v at) ++ option_to_list (second_question plan v told at)
    ++ filter_map (item_question plan v at.1) (enumerate_from 0 (node_state v.state at.0).items)

-- of all nodes in plan order, where this was told
abbrev pub questions : RunPlan → View → List Told → List Question
questions plan v told = flat_map (node_questions plan v told) (enumerate_from 0 plan.nodes)

-- the question behind those that were told
abbrev pub next_question : RunPlan → View → List Told → Option Question
next_question plan v told = slice_get (questions plan v told) (length told)

-- ---- conditions

-- the paths of the plan are of ids
abbrev pub HasPathsOfIds : RunPlan → Type 0
HasPathsOfIds plan = (p : PlanNode) → Contains plan.nodes p → All IsId p.path × (1 ≤ length p.path)
