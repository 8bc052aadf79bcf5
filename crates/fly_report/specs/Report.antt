-- The report of a run: where each execution stands in its last version, with its nodes and their items in plan order.
use Rattle.std.specs.Prelude.{ℕ, List, ◌∷◌, ◌++◌, map, flat_map, length, count_by, codes, Option, Some, None, option_to_list, if◌then◌else◌}
use Rattle.std.specs.List.{enumerate_from}
use Rattle.fly_types.specs.declared.text.Text.{Text}
use Rattle.fly_types.specs.declared.literals.Literal.{Literal}
use Rattle.fly_types.specs.declared.literals.LiteralMap.{LiteralMap}
use Rattle.fly_docs.specs.AttemptName.{path_text, item_text}
use Rattle.fly_docs.specs.declared.node.Node.{Node}
use Rattle.fly_docs.specs.Plans.{PlanNode}
use Rattle.fly_state.specs.declared.slots.SlotState.{SlotState}
use Rattle.fly_state.specs.declared.slots.NodeState.{NodeState}
use Rattle.fly_state.specs.declared.slots.ExecState.{ExecState}
use Rattle.fly_state.specs.Plans.{RunPlan, Path, is_task}
use Rattle.fly_state.specs.States.{node_state, is_failure, is_succeeded, outputs_in}
use Rattle.fly_world.specs.World.{World, Execution}
use Rattle.fly_report.specs.Launches.{launch_count}
use Rattle.fly_report.specs.Lines.{Line, Section, section_text, total_text}
use Rattle.fly_report.specs.Phases.{phase_name}

-- why a slot failed, where it did and that is known
abbrev pub code_of : SlotState → Option Text
code_of slot = if is_failure slot.phase then slot.code else None

abbrev pub slot_line : List ℕ → Option ℕ → SlotState → Line
slot_line subject attempts slot = record {
  subject = subject;
  word = phase_name slot.phase;
  attempts = attempts;
  code = code_of slot;
}

-- How many attempts were launched of a node, or of an item where one is named.
abbrev pub Counts : Type 0
Counts = Option ℕ → ℕ

-- a task node has attempts of its own
abbrev pub own_attempts : Counts → Node → Option ℕ
own_attempts counts node = if is_task node then Some (counts None) else None

-- an item has attempts, and stands under its number
abbrev pub item_line : Counts → Path → ℕ × SlotState → Line
item_line counts path at = slot_line (path_text path ++ item_text (Some at.0)) (Some (counts (Some at.0))) at.1

-- the lines of a node and its items
abbrev pub node_lines : Counts → PlanNode → NodeState → List Line
node_lines counts p n =
    slot_line (path_text p.path) (own_attempts counts p.node) n.own
    ∷ map (item_line counts p.path) (enumerate_from 0 n.items)

-- the lines of the nodes of a plan, each with its own counts
abbrev pub slot_lines : (ℕ × PlanNode → Counts) → RunPlan → ExecState → List Line
slot_lines counts plan state =
    flat_map (λ (at : ℕ × PlanNode). node_lines (counts at) at.1 (node_state state at.0)) (enumerate_from 0 plan.nodes)

-- the literals that it put out, where it succeeded
abbrev pub outputs_of : SlotState → List (Text × Literal)
outputs_of root = flat_map (λ (outputs : LiteralMap). outputs.entries) (option_to_list (outputs_in root))

abbrev pub section_by : (ℕ × PlanNode → Counts) → RunPlan → Execution → Section
section_by counts plan x = record {
  own = slot_line (codes "execution " ++ x.name) None x.state.root;
  slots = slot_lines counts plan x.state;
  outputs = outputs_of x.state.root;
}

-- what is said of an execution, with the launches in the journal
abbrev pub section_of : RunPlan → World → Execution → Section
section_of plan w x = section_by (λ at. launch_count w x.name at.1.path) plan x

abbrev pub succeeded_count : World → ℕ
succeeded_count w = count_by (λ (x : Execution). is_succeeded x.state.root.phase) w.executions

-- all executions, and how many of them succeeded
abbrev pub report_text : RunPlan → World → List ℕ
report_text plan w =
    flat_map (λ (x : Execution). section_text (section_of plan w x)) w.executions
    ++ total_text (succeeded_count w) (length w.executions)
