-- What every state and view of an execution keeps that goes by a plan.
use Rattle.std.specs.Prelude.{◌≡◌, ℕ, ◌<◌, nat_lt, Bool, true, false, not, ◌&&◌, ◌||◌, if◌then◌else◌, List, [], ◌∷◌, map, flat_map, filter_map, length, Contains, IsTrue, IfSome, Option, Some, None, is_some, is_ok, IfOk, option_to_list}
use Rattle.std.specs.List.{list_any, list_all, enumerate_from}
use Rattle.fly_types.specs.declared.kinds.LiteralType.TheVariants as type
use Rattle.fly_types.specs.declared.text.Text.{Text}
use Rattle.fly_types.specs.declared.literals.LiteralMap.{LiteralMap}
use Rattle.fly_types.specs.declared.variable.Variable.{Variable}
use Rattle.fly_docs.specs.declared.task.Task.{Task}
use Rattle.fly_docs.specs.declared.workflow.Workflow.{Workflow}
use Rattle.fly_docs.specs.Names.{IsId}
use Rattle.fly_docs.specs.Bindings.{sources_of}
use Rattle.fly_docs.specs.Lookups.{primary_of}
use Rattle.fly_docs.specs.NodeInterfaces.{inputs_of, outputs_of, source_of}
use Rattle.fly_docs.specs.Plans.{PlanNode, is_array}
use Rattle.fly_docs.specs.SlotInputs.{maps_variable}
use Rattle.fly_policy.specs.Outcome.{AreOutputs}
use Rattle.fly_policy.specs.declared.outcome.Outcome.TheVariants as outcome
use Rattle.fly_state.specs.declared.phase.Phase.{Phase}
use Rattle.fly_state.specs.declared.phase.Phase.TheVariants as phase
use Rattle.fly_state.specs.declared.slots.SlotState.{SlotState}
use Rattle.fly_state.specs.declared.slots.NodeState.{NodeState}
use Rattle.fly_state.specs.declared.slots.ExecState.{ExecState}
use Rattle.fly_state.specs.declared.moves.At.{At}
use Rattle.fly_state.specs.declared.entries.Entry.{Entry}
use Rattle.fly_state.specs.declared.entries.Op.TheVariants as op
use Rattle.fly_state.specs.declared.entries.Reply.TheVariants as reply
use Rattle.fly_state.specs.declared.view.View.{View}
use Rattle.fly_state.specs.declared.view.Known.{Known}
use Rattle.fly_state.specs.Plans.{RunPlan, Path, node_numbered, number_of, number_in, instance_of, case_nodes, is_workflow}
use Rattle.fly_state.specs.States.{node_state, own_state, phase_of, is_final, is_not_yet_started, is_succeeded, is_skipped, is_running, is_within, is_broken}
use Rattle.fly_state.specs.Inputs.{inputs_of_node, count_of_items}
use Rattle.fly_state.specs.Moves.{is_ready, is_going_on, is_queued, is_retryable, is_succeeding, task_run_by}

-- ---- the types of what stands in slots

-- what a node takes: an array takes whole lists for its mapped inputs; a branch stores no inputs
abbrev pub input_variable : RunPlan → PlanNode → Variable → Variable
input_variable plan p x =
    if is_array p.node && maps_variable (source_of plan.documents p.workflow) p.node.inputs x then record x { kind = type.Collection x.kind } else x

abbrev pub input_variables : RunPlan → PlanNode → List Variable
input_variables plan p = flat_map (map (input_variable plan p)) (option_to_list (inputs_of plan.documents p.node))

abbrev pub output_variables : RunPlan → PlanNode → List Variable
output_variables plan p = flat_map (λ variables. variables) (option_to_list (outputs_of plan.documents p.node))

-- what an item takes and gives: what its task does
abbrev pub item_input_variables : RunPlan → PlanNode → List Variable
item_input_variables plan p = flat_map (λ (t : Task). t.interface.inputs) (option_to_list (task_run_by plan p))

abbrev pub item_output_variables : RunPlan → PlanNode → List Variable
item_output_variables plan p = flat_map (λ (t : Task). t.interface.outputs) (option_to_list (task_run_by plan p))

-- a slot that chooses among so many cases, takes these inputs and gives these outputs; where it succeeded, or its outputs are being stored, it has them
pub record IsTypedSlot (cases : ℕ) (inputs outputs : List Variable) (slot : SlotState) : Type 0 where
  pub choice : IfSome slot.choice (λ case. case < cases)
  pub taken : IfSome slot.inputs (AreOutputs inputs)
  pub given : IfSome slot.outputs (AreOutputs outputs)
  pub complete : IsTrue (is_succeeded slot.phase || is_succeeding slot.phase) → IsTrue (is_some slot.outputs)

-- ---- workflow nodes

-- the workflow node has taken its inputs
abbrev pub was_begun : ExecState → ℕ → Bool
was_begun s i = not (is_not_yet_started (phase_of s i)) && is_some (own_state s i).inputs

-- it succeeded, or is started and not final
abbrev pub needs_inputs : Phase → Bool
needs_inputs f = is_succeeded f || (not (is_not_yet_started f) && not (is_final f))

abbrev pub is_aborted : Phase → Bool
is_aborted phase.Aborted = true
is_aborted _ = false

abbrev pub has_items : NodeState → Bool
has_items n = of_items n.items
  where
    of_items : List SlotState → Bool
    of_items [] = false
    of_items (item ∷ items) = true

-- nothing was done at the node: it has no items, and is not yet started or aborted
abbrev pub is_untouched : NodeState → Bool
is_untouched n = not (has_items n) && (is_not_yet_started n.own.phase || is_aborted n.own.phase)

-- its inputs were asked for: it has items, or is started, and neither skipped nor aborted
abbrev pub has_asked_inputs : NodeState → Bool
has_asked_inputs n = has_items n || not (is_not_yet_started n.own.phase || is_skipped n.own.phase || is_aborted n.own.phase)

-- each workflow node around the instance was begun
abbrev pub is_begun : RunPlan → ExecState → Path → Bool
is_begun plan s instance =
    list_all (λ (at : ℕ × PlanNode). not (is_within instance at.1.path) || was_begun s at.0) (enumerate_from 0 plan.nodes)

-- the nodes that a node promises from
abbrev pub promised_numbers : RunPlan → PlanNode → List ℕ
promised_numbers plan p = filter_map (number_in plan (instance_of p)) (sources_of p.node.inputs)

-- ---- states

-- one node in a state
pub record IsNodeOfPlan (plan : RunPlan) (s : ExecState) (i : ℕ) (p : PlanNode) : Type 0 where
  pub typed : IsTypedSlot (length (case_nodes p.node)) (input_variables plan p) (output_variables plan p) (own_state s i)
  pub items : (item : SlotState) → Contains (node_state s i).items item → IsTypedSlot 0 (item_input_variables plan p) (item_output_variables plan p) item
  -- a workflow node that succeeded, or is started and not final, has its inputs, and only inside one that was begun is anything done
  pub has_inputs : IsTrue (is_workflow p.node && needs_inputs (phase_of s i)) → IsTrue (is_some (own_state s i).inputs)
  pub inside : IsTrue (is_begun plan s (instance_of p) || is_untouched (node_state s i))
  -- what it takes is there, and without fault
  pub promised : (source : ℕ) → IsTrue (has_asked_inputs (node_state s i)) → Contains (promised_numbers plan p) source → IsTrue (is_succeeded (phase_of s source))
  pub faultless : IsTrue (is_queued (phase_of s i) || is_running (phase_of s i) || has_items (node_state s i)) → IsTrue (is_ok (inputs_of_node plan s p None))
  -- only an array has items, one for each element
  pub array : IsTrue (has_items (node_state s i)) → IsTrue (is_array p.node)
  pub counted : IsTrue (has_items (node_state s i))
      → IfOk (inputs_of_node plan s p None) (λ inputs. length (node_state s i).items ≡ count_of_items plan p inputs)
  -- only in a broken instance is anything aborted
  pub aborted : IsTrue (is_aborted (phase_of s i)) → IsTrue (is_broken plan s (instance_of p))
  pub item_aborted : (item : SlotState) → Contains (node_state s i).items item → IsTrue (is_aborted item.phase) → IsTrue (is_broken plan s (instance_of p))

-- the root, which has the inputs of the workflow
pub record IsRootOfPlan (plan : RunPlan) (w : Workflow) (s : ExecState) : Type 0 where
  pub typed : IsTypedSlot 0 w.interface.inputs w.interface.outputs s.root
  pub has_inputs : IsTrue (is_some s.root.inputs)
  pub aborted : IsTrue (is_aborted s.root.phase) → IsTrue (is_broken plan s [])

pub record IsOfPlan (plan : RunPlan) (s : ExecState) : Type 0 where
  pub count : length s.nodes ≡ length plan.nodes
  pub root : (w : Workflow) → primary_of plan.documents ≡ Some w → IsRootOfPlan plan w s
  pub nodes : (i : ℕ) (p : PlanNode) → node_numbered plan i ≡ Some p → IsNodeOfPlan plan s i p

-- ---- slots whose inputs may be asked for

abbrev pub has_sources : RunPlan → ExecState → PlanNode → Bool
has_sources plan s p = list_all (λ source. is_succeeded (phase_of s source)) (promised_numbers plan p)

-- it is ready in an instance that goes on, and what it promises from succeeded; or it is started, and neither skipped nor aborted
abbrev pub may_ask_inputs : RunPlan → ExecState → ℕ → PlanNode → Bool
may_ask_inputs plan s i p =
    (is_going_on plan s (instance_of p) && is_ready plan s i && has_sources plan s p)
    || not (is_not_yet_started (phase_of s i) || is_skipped (phase_of s i) || is_aborted (phase_of s i))

-- such a node, an item that is there, or the root where it is started
abbrev pub may_ask_inputs_at : RunPlan → ExecState → At → Bool
may_ask_inputs_at plan s at = by at.node at.item
  where
    by : Option ℕ → Option ℕ → Bool
    by None None = not (is_not_yet_started s.root.phase || is_skipped s.root.phase || is_aborted s.root.phase)
    by None (Some item) = false
    by (Some i) None = list_any (may_ask_inputs plan s i) (option_to_list (node_numbered plan i))
    by (Some i) (Some item) = is_some (node_numbered plan i) && nat_lt item (length (node_state s i).items)

-- the inputs of a node that may be tried again have no fault
abbrev pub HasFaultlessRetries : RunPlan → ExecState → Type 0
HasFaultlessRetries plan s =
    (i : ℕ) (p : PlanNode) → node_numbered plan i ≡ Some p → IsTrue (is_retryable (phase_of s i)) → IsTrue (is_ok (inputs_of_node plan s p None))

-- ---- entries

-- what a look-up found for a node is of the outputs that the node gives
abbrev pub IsEntryOfPlan : RunPlan → Entry → Type 0
IsEntryOfPlan plan e =
    (exec : Text) (path : Path) (content : LiteralMap) (i : ℕ) (p : PlanNode) → e.op ≡ op.Lookup exec path → e.reply ≡ reply.Hit content
    → number_of plan path ≡ Some i → node_numbered plan i ≡ Some p → AreOutputs (output_variables plan p) content

-- ---- views

-- the outputs that an attempt came to are those of its task
abbrev pub IsKnownOfPlan : RunPlan → Known → Type 0
IsKnownOfPlan plan known =
    (i : ℕ) (p : PlanNode) (outputs : LiteralMap) → number_of plan known.name.path ≡ Some i → node_numbered plan i ≡ Some p
    → known.outcome ≡ Some (outcome.Succeeded outputs) → AreOutputs (item_output_variables plan p) outputs

pub record IsViewOfPlan (plan : RunPlan) (v : View) : Type 0 where
  pub name : IsId v.name
  pub state : IsOfPlan plan v.state
  pub outcomes : (known : Known) → Contains v.launches known → IsKnownOfPlan plan known
