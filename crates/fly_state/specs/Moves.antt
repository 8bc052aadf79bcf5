-- The moves: where each is legal, and what it makes of its slot.
use Rattle.std.specs.Prelude.{ℕ, ◌+◌, ◌==◌, nat_le, Bool, true, false, not, ◌&&◌, ◌||◌, if◌then◌else◌, List, [], ◌∷◌, map, flat_map, find, replicate, slice_get, slice_set, bytes_eq, codes, Option, Some, None, option_map, option_and_then, option_to_list, is_some, is_none, unwrap_or, Ok, Err}
use Rattle.std.specs.List.{list_any, list_all, enumerate_from}
use Rattle.fly_types.specs.declared.text.Text.{Text}
use Rattle.fly_types.specs.declared.kinds.LiteralType.{LiteralType}
use Rattle.fly_types.specs.declared.kinds.LiteralType.TheVariants as type
use Rattle.fly_types.specs.declared.kinds.Simple.TheVariants as simple
use Rattle.fly_types.specs.declared.literals.Literal.{Literal}
use Rattle.fly_types.specs.declared.literals.Literal.TheVariants as literal
use Rattle.fly_types.specs.declared.literals.LiteralMap.{LiteralMap}
use Rattle.fly_types.specs.declared.variable.Variable.{Variable}
use Rattle.fly_docs.specs.declared.attempt_name.AttemptName.{AttemptName}
use Rattle.fly_docs.specs.declared.node.Node.{Node}
use Rattle.fly_docs.specs.declared.node.Case.{Case}
use Rattle.fly_docs.specs.declared.node.Target.{Target, out-Target}
use Rattle.fly_docs.specs.declared.node.Target.TheOpen.{Target-F}
use Rattle.fly_docs.specs.declared.task.Task.{Task}
use Rattle.fly_docs.specs.declared.workflow.Workflow.{Workflow}
use Rattle.fly_docs.specs.Lookups.{task_named}
use Rattle.fly_docs.specs.Bindings.{sources_of}
use Rattle.fly_docs.specs.Plans.{PlanNode, is_array}
use Rattle.fly_docs.specs.Reaching.{task_id_of}
use Rattle.fly_docs.specs.SlotInputs as docs
use Rattle.fly_docs.specs.SlotInputs.{Taken, literal_named, branch_outputs, workflow_outputs}
use Rattle.fly_policy.specs.declared.outcome.Outcome.{Outcome}
use Rattle.fly_policy.specs.declared.outcome.Outcome.TheVariants as outcome
use Rattle.fly_policy.specs.declared.retries.Next.{Next}
use Rattle.fly_policy.specs.declared.retries.Next.TheVariants as next
use Rattle.fly_policy.specs.Retries.{next_of}
use Rattle.fly_policy.specs.Items.{minimum, success_count}
use Rattle.fly_state.specs.declared.phase.Phase.{Phase}
use Rattle.fly_state.specs.declared.phase.Phase.TheVariants as phase
use Rattle.fly_state.specs.declared.slots.SlotState.{SlotState}
use Rattle.fly_state.specs.declared.slots.NodeState.{NodeState}
use Rattle.fly_state.specs.declared.slots.ExecState.{ExecState}
use Rattle.fly_state.specs.declared.moves.At.{At}
use Rattle.fly_state.specs.declared.moves.Move.{Move}
use Rattle.fly_state.specs.declared.moves.Step.{Step}
use Rattle.fly_state.specs.declared.moves.Step.TheVariants as step
pub use Rattle.fly_state.specs.declared.effects.Effect.{Effect}
use Rattle.fly_state.specs.declared.entries.Entry.{Entry}
use Rattle.fly_state.specs.declared.entries.Op.{Op}
use Rattle.fly_state.specs.declared.entries.Op.TheVariants as op
use Rattle.fly_state.specs.declared.entries.Reply.{Reply}
use Rattle.fly_state.specs.declared.entries.Reply.TheVariants as reply
use Rattle.fly_state.specs.declared.view.View.{View}
use Rattle.fly_state.specs.declared.view.Known.{Known}
use Rattle.fly_state.specs.Plans.{RunPlan, Path, same_path, node_numbered, nodes_in, number_in, instance_of, workflow_in, numbered_case, is_task, is_workflow, is_branch, task_of}
use Rattle.fly_state.specs.States.{fresh_slot, node_state, own_state, phase_of, is_final, is_failure, is_succeeded, is_running, is_skipped, is_not_yet_started, outputs_in, instance_state, is_within, is_broken, known_in}
use Rattle.fly_rules.specs.Standing.{is_ready_standing, is_skipped_standing}
use Rattle.fly_state.specs.Standing.{standing_of, is_at_rest, is_settled}
use Rattle.fly_state.specs.Inputs.{inputs_of_node, value_in, fault_code, count_of_items, choice_of}

-- the effect of a move that leaves the items of its slot as they are
abbrev pub of_slot : SlotState → Effect
of_slot slot = record { slot = slot; items = None }

-- there is one only where the condition holds
abbrev pub where_true : {X : Type 0} → Bool → Option X → Option X
where_true true x = x
where_true false x = None

-- ---- tasks

-- the task that a node runs, for an array that of its items
abbrev pub task_run_by : RunPlan → PlanNode → Option Task
task_run_by plan p = option_and_then (task_named plan.documents) (task_id_of p.node)

-- a task node whose outputs are cached
abbrev pub is_cached : RunPlan → PlanNode → Bool
is_cached plan p = list_any (λ (t : Task). t.cached) (option_to_list (task_of plan p))

-- the most attempts of a node, or of each of its items: its own retries count, and where they are 0 its task's
abbrev pub attempt_limit : RunPlan → PlanNode → ℕ
attempt_limit plan p =
    (if p.node.retries == 0 then unwrap_or (option_map (λ (t : Task). t.retries) (task_run_by plan p)) 0 else p.node.retries) + 1

-- ---- what entries say

-- the operation is on this node of this execution
abbrev pub is_on : View → PlanNode → Text → Path → Bool
is_on v p exec path = bytes_eq v.name exec && same_path p.path path

-- the catalog was found to lack the outputs of this node
abbrev pub is_miss : View → PlanNode → Entry → Bool
is_miss v p e = says e.op e.reply
  where
    says : Op → Reply → Bool
    says (op.Lookup exec path) reply.Miss = is_on v p exec path
    says _ _ = false

-- a reservation was granted to this node
abbrev pub is_grant : View → PlanNode → Entry → Bool
is_grant v p e = says e.op e.reply
  where
    says : Op → Reply → Bool
    says (op.Reserve exec path) (reply.Granted expiry) = is_on v p exec path
    says _ _ = false

-- the catalog has the outputs of this node
abbrev pub is_stored : View → PlanNode → Entry → Bool
is_stored v p e = says e.op e.reply
  where
    says : Op → Reply → Bool
    says (op.Put exec path) reply.Stored = is_on v p exec path
    says (op.Put exec path) reply.Present = is_on v p exec path
    says _ _ = false

-- what the catalog was found to have for this node
abbrev pub hit_content : View → PlanNode → Entry → Option LiteralMap
hit_content v p e = says e.op e.reply
  where
    says : Op → Reply → Option LiteralMap
    says (op.Lookup exec path) (reply.Hit content) = where_true (is_on v p exec path) (Some content)
    says _ _ = None

-- the task may run by these entries
abbrev pub may_run : View → PlanNode → Task → Option ℕ → Option ℕ → List Entry → Bool
may_run v p t miss lease entries = by t.cached t.serializable miss lease entries
  where
    by : Bool → Bool → Option ℕ → Option ℕ → List Entry → Bool
    by false serializable None None [] = true
    by true false (Some place) None (e ∷ []) = is_miss v p e
    by true true (Some place) (Some other) (e ∷ r ∷ []) = is_miss v p e && is_grant v p r
    by _ _ _ _ _ = false

-- ---- attempts

abbrev pub same_item : Option ℕ → Option ℕ → Bool
same_item None None = true
same_item (Some a) (Some b) = a == b
same_item _ _ = false

-- the name is of this attempt of the node, or of the item of that number
abbrev pub is_attempt : View → PlanNode → Option ℕ → ℕ → AttemptName → Bool
is_attempt v p item attempt name = is_on v p name.exec name.path && same_item item name.item && attempt == name.attempt

-- what the attempt came to
abbrev pub outcome_in : View → PlanNode → Option ℕ → ℕ → Option Outcome
outcome_in v p item attempt =
    option_and_then (λ (k : Known). k.outcome) (find (λ (k : Known). is_attempt v p item attempt k.name) v.launches)

abbrev pub outputs_of_outcome : Outcome → Option LiteralMap
outputs_of_outcome (outcome.Succeeded outputs) = Some outputs
outputs_of_outcome _ = None

abbrev pub code_of_outcome : Outcome → Option Text
code_of_outcome (outcome.Recoverable code message) = Some code
code_of_outcome (outcome.Fatal code message) = Some code
code_of_outcome _ = None

abbrev pub timeout_code : Text
timeout_code = codes "Timeout"

-- the slot after an attempt with this outcome; `done` is the phase after a success
abbrev pub slot_after : Phase → SlotState → Outcome → Next → SlotState
slot_after done slot o next.Done = record slot { phase = done; outputs = outputs_of_outcome o }
slot_after done slot o next.Again = record slot { phase = phase.RetryableFailure }
slot_after done slot o next.Failed = record slot { phase = phase.Failed; code = code_of_outcome o }
slot_after done slot o next.TimedOut = record slot { phase = phase.TimedOut; code = Some timeout_code }

-- a slot that runs is settled by the outcome of its attempt
abbrev pub settled_slot : RunPlan → View → PlanNode → Option ℕ → Phase → SlotState → Option SlotState
settled_slot plan v p item done slot =
    where_true (is_running slot.phase)
    (option_map (λ o. slot_after done slot o (next_of o slot.attempt (attempt_limit plan p))) (outcome_in v p item slot.attempt))

abbrev pub is_retryable : Phase → Bool
is_retryable phase.RetryableFailure = true
is_retryable _ = false

-- after a failure that another attempt may mend, that attempt
abbrev pub retried_slot : SlotState → Option SlotState
retried_slot slot = where_true (is_retryable slot.phase) (Some (record slot { phase = phase.Running; attempt = slot.attempt + 1 }))

abbrev pub failed_slot : SlotState → Text → SlotState
failed_slot slot code = record slot { phase = phase.Failed; code = Some code }

-- ---- nodes that are not yet started

abbrev pub is_ready : RunPlan → ExecState → ℕ → Bool
is_ready plan s i = is_not_yet_started (phase_of s i) && is_ready_standing (standing_of plan s i)

-- a node that is ready, of a kind, with inputs that have no fault
abbrev pub inputs_when : Bool → RunPlan → ExecState → ℕ → PlanNode → Option LiteralMap
inputs_when kind plan s i p = where_true (kind && is_ready plan s i) (value_in (inputs_of_node plan s p None))

abbrev pub begun_slot : RunPlan → ExecState → ℕ → PlanNode → Option SlotState
begun_slot plan s i p =
    option_map (λ inputs. record (own_state s i) { phase = phase.Running; inputs = Some inputs }) (inputs_when (is_workflow p.node) plan s i p)

abbrev pub queued_slot : RunPlan → ExecState → ℕ → PlanNode → Option SlotState
queued_slot plan s i p =
    option_map (λ inputs. record (own_state s i) { phase = phase.Queued; inputs = Some inputs }) (inputs_when (is_task p.node || is_array p.node) plan s i p)

-- a branch takes the case that its inputs choose, and no other
abbrev pub chosen_slot : RunPlan → ExecState → ℕ → PlanNode → ℕ → Option SlotState
chosen_slot plan s i p case =
    option_and_then (λ choice. where_true (case == choice) (Some (record (own_state s i) { phase = phase.Running; choice = Some case })))
    (option_and_then (λ inputs. choice_of inputs p.node) (inputs_when (is_branch p.node) plan s i p))

abbrev pub no_case_slot : RunPlan → ExecState → ℕ → PlanNode → Option SlotState
no_case_slot plan s i p =
    option_and_then (λ inputs. where_true (is_none (choice_of inputs p.node)) (Some (failed_slot (own_state s i) (codes "NoCase"))))
    (inputs_when (is_branch p.node) plan s i p)

abbrev pub input_failed_slot : RunPlan → ExecState → ℕ → PlanNode → Option SlotState
input_failed_slot plan s i p =
    where_true (not (is_branch p.node) && is_ready plan s i)
    (option_map (failed_slot (own_state s i)) (fault_code (inputs_of_node plan s p None)))

abbrev pub skipped_slot : RunPlan → ExecState → ℕ → Option SlotState
skipped_slot plan s i =
    where_true (is_not_yet_started (phase_of s i) && is_skipped_standing (standing_of plan s i))
    (Some (record (own_state s i) { phase = phase.Skipped }))

-- ---- nodes that run

abbrev pub is_queued : Phase → Bool
is_queued phase.Queued = true
is_queued _ = false

abbrev pub run_slot : SlotState → SlotState
run_slot slot = record slot { phase = phase.Running; attempt = 0 }

-- a new item runs at its first attempt
abbrev pub new_item : SlotState
new_item = run_slot fresh_slot

abbrev pub no_places : Option ℕ → Option ℕ → List Entry → Bool
no_places None None [] = true
no_places _ _ _ = false

-- a task runs where the entries allow it
abbrev pub run_task_effect : RunPlan → View → List Entry → ℕ → PlanNode → Option ℕ → Option ℕ → Option Effect
run_task_effect plan v entries i p miss lease =
    option_and_then (λ t. where_true (may_run v p t miss lease entries) (Some (of_slot (run_slot (own_state v.state i))))) (task_of plan p)

-- an array runs with an item for each element
abbrev pub run_array_effect : RunPlan → View → List Entry → ℕ → PlanNode → Option ℕ → Option ℕ → Option Effect
run_array_effect plan v entries i p miss lease =
    where_true (no_places miss lease entries)
    (option_map (λ inputs. record {
      slot = record (own_state v.state i) { phase = phase.Running };
      items = Some (replicate (count_of_items plan p inputs) new_item);
    }) (value_in (inputs_of_node plan v.state p None)))

abbrev pub run_effect : RunPlan → View → List Entry → ℕ → PlanNode → Option ℕ → Option ℕ → Option Effect
run_effect plan v entries i p miss lease =
    where_true (is_queued (phase_of v.state i))
    (if is_array p.node then run_array_effect plan v entries i p miss lease else run_task_effect plan v entries i p miss lease)

-- a cached task takes what the catalog has
abbrev pub hit_slot : RunPlan → View → List Entry → ℕ → PlanNode → Option SlotState
hit_slot plan v (e ∷ []) i p =
    where_true (is_queued (phase_of v.state i) && is_cached plan p)
    (option_map (λ content. record (own_state v.state i) { phase = phase.Succeeded; outputs = Some content }) (hit_content v p e))
hit_slot plan v _ i p = None

abbrev pub is_succeeding : Phase → Bool
is_succeeding phase.Succeeding = true
is_succeeding _ = false

abbrev pub stored_slot : View → List Entry → ℕ → PlanNode → Option SlotState
stored_slot v (e ∷ []) i p =
    where_true (is_succeeding (phase_of v.state i) && is_stored v p e) (Some (record (own_state v.state i) { phase = phase.Succeeded }))
stored_slot v _ i p = None

-- the phase of a task after a success: its outputs are put into the catalog first where they are cached
abbrev pub success_phase : RunPlan → PlanNode → Phase
success_phase plan p = if is_cached plan p then phase.Succeeding else phase.Succeeded

-- ---- the end of arrays

-- what the items came to
abbrev pub item_end : SlotState → Option Bool
item_end item = if is_final item.phase then Some (is_succeeded item.phase) else None

abbrev pub item_ends : List SlotState → List (Option Bool)
item_ends items = map item_end items

-- The output of one item as an element: as it is where all items have to succeed; else as a union scalar, and for an item without success as
-- a value of NONE.
abbrev pub variant_element : LiteralType → Option Literal → Literal
variant_element kind (Some l) = literal.Union l kind
variant_element kind None = literal.Union literal.None (type.Simple simple.None)

abbrev pub elements_of : Option ℕ → LiteralType → Option Literal → List Literal
elements_of None kind output = option_to_list output
elements_of (Some min_successes) kind output = variant_element kind output ∷ []

abbrev pub item_output : Text → SlotState → Option Literal
item_output name item = option_and_then (literal_named name) (outputs_in item)

-- the outputs of an array: under each output of its task the list of the items' outputs
abbrev pub array_outputs : Option ℕ → Task → List SlotState → LiteralMap
array_outputs min_successes t items = record {
  entries = map (λ (x : Variable). (x.name, literal.Collection (flat_map (λ item. elements_of min_successes x.kind (item_output x.name item)) items)))
      t.interface.outputs;
}

abbrev pub min_successes_in : Target-F Target Case Node → Option ℕ
min_successes_in (Target-F.Array task min_successes) = min_successes
min_successes_in _ = None

abbrev pub min_successes_of : PlanNode → Option ℕ
min_successes_of p = min_successes_in (out-Target p.node.target)

abbrev pub succeeded_slot : SlotState → LiteralMap → SlotState
succeeded_slot slot outputs = record slot { phase = phase.Succeeded; outputs = Some outputs }

-- once all items are final, by how many of them succeeded
abbrev pub closed_array_slot : RunPlan → NodeState → PlanNode → Option SlotState
closed_array_slot plan n p =
    where_true (list_all (λ (item : SlotState). is_final item.phase) n.items)
    (option_map (λ (t : Task).
    if nat_le (minimum (min_successes_of p) (item_ends n.items)) (success_count (item_ends n.items))
    then succeeded_slot n.own (array_outputs (min_successes_of p) t n.items)
    else failed_slot n.own (codes "TooFewSuccesses")) (task_run_by plan p))

-- ---- the end of branches

-- by the phase of the chosen case, which is at rest
abbrev pub branch_after : RunPlan → PlanNode → SlotState → SlotState → SlotState
branch_after plan p slot case = by case.phase
  where
    by : Phase → SlotState
    by phase.Succeeded = record slot { phase = phase.Succeeded; outputs = option_map (branch_outputs plan.documents p.node) case.outputs }
    by phase.Skipped = record slot { phase = phase.Skipped }
    by _ = failed_slot slot (codes "CaseFailed")

-- once the chosen case is final or blocked
abbrev pub closed_branch_slot : RunPlan → ExecState → ℕ → PlanNode → Option SlotState
closed_branch_slot plan s i p =
    option_and_then (λ case. where_true (is_at_rest plan s case) (Some (branch_after plan p (own_state s i) (own_state s case))))
    (option_and_then (numbered_case plan p) (own_state s i).choice)

-- ---- the end of instances

-- a node of the instance failed
abbrev pub has_failure : RunPlan → ExecState → Path → Bool
has_failure plan s instance = list_any (λ (at : ℕ × PlanNode). is_failure (phase_of s at.0)) (nodes_in plan instance)

-- an output of the workflow promises from a node that was skipped
abbrev pub misses_output : RunPlan → ExecState → Path → Workflow → Bool
misses_output plan s instance w =
    list_any (λ id. list_any (λ i. is_skipped (phase_of s i)) (option_to_list (number_in plan instance id))) (sources_of w.outputs)

-- the slot with the outputs of its workflow, or with the fault of their conversion
abbrev pub slot_with_outputs : SlotState → Taken LiteralMap → Option SlotState
slot_with_outputs slot (Ok outputs) = Some (succeeded_slot slot outputs)
slot_with_outputs slot (Err (docs.enum_outside text)) = Some (failed_slot slot (codes "EnumOutside"))
slot_with_outputs slot _ = None

-- once the instance is settled: by its failures, by a missing output, by the conversion of the outputs
abbrev pub closed_instance_slot : RunPlan → ExecState → Path → Option SlotState
closed_instance_slot plan s instance =
    where_true (is_settled plan s instance) (option_and_then close (workflow_in plan instance))
  where
    close : Workflow → Option SlotState
    close w =
        let slot = instance_state plan s instance in
        if has_failure plan s instance then Some (failed_slot slot (codes "NodeFailed"))
        else (if misses_output plan s instance w then Some (failed_slot slot (codes "OutputMissing"))
        else slot_with_outputs slot (workflow_outputs plan.documents w (known_in plan s instance)))

-- ---- closing, by kinds

abbrev pub closed_node_slot : RunPlan → ExecState → ℕ → PlanNode → Option SlotState
closed_node_slot plan s i p = where_true (is_running (phase_of s i)) (by_target (out-Target p.node.target))
  where
    by_target : Target-F Target Case Node → Option SlotState
    by_target (Target-F.Array task min_successes) = closed_array_slot plan (node_state s i) p
    by_target (Target-F.Branch cases otherwise error) = closed_branch_slot plan s i p
    by_target (Target-F.Workflow id) = closed_instance_slot plan s p.path
    by_target (Target-F.Task id) = None

abbrev pub aborted_slot : SlotState → Option SlotState
aborted_slot slot = where_true (not (is_final slot.phase)) (Some (record slot { phase = phase.Aborted }))

-- ---- all moves

-- what a step makes of a node
abbrev pub node_effect : RunPlan → View → List Entry → ℕ → PlanNode → Step → Option Effect
node_effect plan v entries i p step.Begin = option_map of_slot (begun_slot plan v.state i p)
node_effect plan v entries i p step.Queue = option_map of_slot (queued_slot plan v.state i p)
node_effect plan v entries i p (step.Choose case) = option_map of_slot (chosen_slot plan v.state i p case)
node_effect plan v entries i p step.NoCase = option_map of_slot (no_case_slot plan v.state i p)
node_effect plan v entries i p step.InputFail = option_map of_slot (input_failed_slot plan v.state i p)
node_effect plan v entries i p step.Skip = option_map of_slot (skipped_slot plan v.state i)
node_effect plan v entries i p (step.Run miss lease) = run_effect plan v entries i p miss lease
node_effect plan v entries i p (step.Hit place) = option_map of_slot (hit_slot plan v entries i p)
node_effect plan v entries i p step.Retry = option_map of_slot (retried_slot (own_state v.state i))
node_effect plan v entries i p step.Settle =
    option_map of_slot (where_true (is_task p.node) (settled_slot plan v p None (success_phase plan p) (own_state v.state i)))
node_effect plan v entries i p (step.Stored place) = option_map of_slot (stored_slot v entries i p)
node_effect plan v entries i p step.Close = option_map of_slot (closed_node_slot plan v.state i p)
node_effect plan v entries i p step.Abort = option_map of_slot (aborted_slot (own_state v.state i))

-- what a step makes of an item
abbrev pub item_effect : RunPlan → View → PlanNode → ℕ → SlotState → Step → Option Effect
item_effect plan v p item slot step.Retry = option_map of_slot (retried_slot slot)
item_effect plan v p item slot step.Settle = option_map of_slot (settled_slot plan v p (Some item) phase.Succeeded slot)
item_effect plan v p item slot step.Abort = option_map of_slot (aborted_slot slot)
item_effect plan v p item slot _ = None

-- what a step makes of the root, which does nothing but close
abbrev pub root_effect : RunPlan → ExecState → Step → Option Effect
root_effect plan s step.Close = where_true (is_running s.root.phase) (option_map of_slot (closed_instance_slot plan s []))
root_effect plan s _ = None

-- each workflow node around the instance runs
abbrev pub is_going_on : RunPlan → ExecState → Path → Bool
is_going_on plan s instance =
    list_all (λ (at : ℕ × PlanNode). not (is_within instance at.1.path) || is_running (phase_of s at.0)) (enumerate_from 0 plan.nodes)

-- in a broken instance nothing but aborts, and elsewhere anything but these, where the instance goes on
abbrev pub may_step : RunPlan → ExecState → Path → Step → Bool
may_step plan s instance step.Abort = is_broken plan s instance
may_step plan s instance _ = is_going_on plan s instance && not (is_broken plan s instance)

-- what a move makes of its slot at a view, with the entries that it cites; none where it is not legal
abbrev pub effect_of : RunPlan → View → List Entry → Move → Option Effect
effect_of plan v entries m = by m.at.node m.at.item
  where
    at_node : ℕ → Option ℕ → PlanNode → Option Effect
    at_node i None p = node_effect plan v entries i p m.step
    at_node i (Some item) p = option_and_then (λ slot. item_effect plan v p item slot m.step) (slice_get (node_state v.state i).items item)

    by : Option ℕ → Option ℕ → Option Effect
    by None None = root_effect plan v.state m.step
    by None (Some item) = None
    by (Some i) item =
        option_and_then (λ p. where_true (may_step plan v.state (instance_of p) m.step) (at_node i item p)) (node_numbered plan i)

-- the move is legal
abbrev pub is_legal : RunPlan → View → List Entry → Move → Bool
is_legal plan v entries m = is_some (effect_of plan v entries m)

-- ---- the state after

-- the state with one node changed
abbrev pub with_node : ExecState → ℕ → NodeState → ExecState
with_node s i n = record s { nodes = slice_set s.nodes i n }

-- the state in which a slot is as a move makes it
abbrev pub state_with : ExecState → At → Effect → ExecState
state_with s at e = by at.node at.item
  where
    by : Option ℕ → Option ℕ → ExecState
    by None item = record s { root = e.slot }
    by (Some i) None = with_node s i (record { own = e.slot; items = unwrap_or e.items (node_state s i).items })
    by (Some i) (Some item) = with_node s i (record (node_state s i) { items = slice_set (node_state s i).items item e.slot })
