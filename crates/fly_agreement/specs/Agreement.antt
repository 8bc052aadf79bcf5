-- Which versions of an execution agree with what the run means: slot by slot, over what is recorded of attempts and of the catalog.
use Rattle.std.specs.Prelude.{◌≡◌, ℕ, ◌+◌, ◌<◌, Bool, true, ◌&&◌, ◌||◌, [], length, slice_get, Option, Some, None, option_map, option_and_then, is_some, Ok, ⊤}
use Rattle.fly_types.specs.declared.text.Text.{Text}
use Rattle.fly_types.specs.declared.literals.LiteralMap.{LiteralMap}
use Rattle.fly_policy.specs.declared.outcome.Outcome.{Outcome}
use Rattle.fly_policy.specs.declared.retries.Next.TheVariants as next
use Rattle.fly_policy.specs.Retries.{next_of}
use Rattle.fly_docs.specs.Plans.{PlanNode, is_array}
use Rattle.fly_docs.specs.SlotInputs.{Taken, mapped_of, item_inputs}
use Rattle.fly_rules.specs.Standing.{Standing, ready}
use Rattle.fly_state.specs.declared.phase.Phase.{Phase}
use Rattle.fly_state.specs.declared.phase.Phase.TheVariants as phase
use Rattle.fly_state.specs.declared.slots.SlotState.{SlotState}
use Rattle.fly_state.specs.declared.slots.NodeState.{NodeState}
use Rattle.fly_state.specs.declared.slots.ExecState.{ExecState}
use Rattle.fly_state.specs.Plans.{RunPlan, node_numbered, instance_of, is_task}
use Rattle.fly_state.specs.States.{node_state, own_state, phase_of, is_not_yet_started, is_running, is_succeeded, is_broken}
use Rattle.fly_state.specs.Inputs.{count_of_items, choice_of}
use Rattle.fly_state.specs.Moves.{is_cached, attempt_limit, is_queued, is_retryable, is_succeeding, timeout_code}
use Rattle.fly_state.specs.OfPlan.{has_items, is_aborted}
use Rattle.fly_eval.specs.declared.verdict.Verdict.{Verdict}
use Rattle.fly_eval.specs.declared.verdict.Verdict.TheVariants as verdict
use Rattle.fly_eval.specs.declared.results.Results.{Results}
use Rattle.fly_eval.specs.declared.results.Hits.{Hits}
use Rattle.fly_eval.specs.Results.{Slot, result_of, hit_of}
use Rattle.fly_eval.specs.Attempts.{attempts_of}
use Rattle.fly_eval.specs.Evaluation.{Entering, node_slot, item_slot, outer_of, whole_sight, root_verdict}

-- ---- what evaluation says of a slot

-- the inputs with which a node is entered: those of one that is ready, where they have no fault
abbrev pub given_inputs : Entering → Option LiteralMap
given_inputs e = by e.standing e.inputs
  where
    by : Standing → Taken LiteralMap → Option LiteralMap
    by ready (Ok given) = Some given
    by _ _ = None

-- the case that a branch chooses by these inputs
abbrev pub given_choice : PlanNode → Entering → Option ℕ
given_choice p e = option_and_then (λ given. choice_of given p.node) (given_inputs e)

-- the inputs of an item of an array
abbrev pub given_item : RunPlan → PlanNode → Entering → ℕ → Option LiteralMap
given_item plan p e item = option_map (item_inputs (mapped_of plan.documents p.workflow p.node) item) (given_inputs e)

-- a slot has its inputs from evaluation, where it has any
abbrev pub HasGivenInputs : SlotState → Option LiteralMap → Type 0
HasGivenInputs slot given = (inputs : LiteralMap) → slot.inputs ≡ Some inputs → given ≡ Some inputs

-- ---- attempts

-- the attempt of this number has a result that calls for another
abbrev pub IsTriedAgain : RunPlan → Results → PlanNode → Slot → ℕ → Type 0
IsTriedAgain plan results p at k = (o : Outcome) × (result_of results at k ≡ Some o) × (next_of o k (attempt_limit plan p) ≡ next.Again)

-- so have all attempts before this number
abbrev pub AreTriedAgain : RunPlan → Results → PlanNode → Slot → ℕ → Type 0
AreTriedAgain plan results p at count = (k : ℕ) → k < count → IsTriedAgain plan results p at k

-- ---- ends

-- it has outputs, and succeeds with them
abbrev pub SucceedsWith : SlotState → Verdict → Type 0
SucceedsWith slot v = (outputs : LiteralMap) × (slot.outputs ≡ Some outputs) × (v ≡ verdict.Succeeded outputs)

-- a slot in a final phase other than ABORTED tells the verdict, with its outputs and its code
abbrev pub TellsIn : Phase → SlotState → Verdict → Type 0
TellsIn phase.Succeeded slot v = SucceedsWith slot v
TellsIn phase.Failed slot v = (code : Text) × (slot.code ≡ Some code) × (v ≡ verdict.Failed code)
TellsIn phase.TimedOut slot v = (slot.code ≡ Some timeout_code) × (v ≡ verdict.TimedOut)
TellsIn phase.Skipped slot v = v ≡ verdict.Skipped
TellsIn _ slot v = ⊤

abbrev pub TellsVerdict : SlotState → Verdict → Type 0
TellsVerdict slot v = TellsIn slot.phase slot v

-- ---- slots

-- an array that runs, or has come to its end after that, has its items
abbrev pub has_run : NodeState → Bool
has_run n = is_running n.own.phase || is_succeeded n.own.phase || has_items n

-- a node that was queued or begun and is not final
abbrev pub is_under_way : Phase → Bool
is_under_way f = is_queued f || is_running f || is_retryable f || is_succeeding f

-- in a workflow node that is not yet started nothing is done
abbrev pub IsUntouchedInside : RunPlan → ExecState → PlanNode → SlotState → Type 0
IsUntouchedInside plan s p slot =
    (outer : ℕ) → outer_of plan p ≡ Some outer → is_not_yet_started (phase_of s outer) ≡ true
    → is_not_yet_started slot.phase || is_aborted slot.phase ≡ true

-- The own slot of the node of this number, which evaluation enters so and gives this verdict.
pub record AgreesNode (plan : RunPlan) (results : Results) (hits : Hits) (s : ExecState) (i : ℕ) (p : PlanNode) (e : Entering)
    (v : Verdict) : Type 0 where
  pub inputs : HasGivenInputs (own_state s i) (given_inputs e)
  pub items : is_array p.node && has_run (node_state s i) ≡ true
      → (given : LiteralMap) × (given_inputs e ≡ Some given) × (length (node_state s i).items ≡ count_of_items plan p given)
  pub choice : (case : ℕ) → (own_state s i).choice ≡ Some case → given_choice p e ≡ Some case
  pub running : is_task p.node && is_running (phase_of s i) ≡ true
      → AreTriedAgain plan results p (node_slot p) (own_state s i).attempt
  pub retryable : is_task p.node && is_retryable (phase_of s i) ≡ true
      → AreTriedAgain plan results p (node_slot p) ((own_state s i).attempt + 1)
  pub missed : is_cached plan p && (is_running (phase_of s i) || is_retryable (phase_of s i)) ≡ true → hit_of hits p.path ≡ Some None
  pub succeeding : is_succeeding (phase_of s i) ≡ true → SucceedsWith (own_state s i) v
  pub final : TellsVerdict (own_state s i) v
  pub aborted : is_aborted (phase_of s i) ≡ true → is_broken plan s (instance_of p) ≡ true
  pub inside : IsUntouchedInside plan s p (own_state s i)
  -- Beside these: a task node or an array that is under way has inputs, and the catalog has not answered for one that is queued.
  pub has_inputs : (is_task p.node || is_array p.node) && is_under_way (phase_of s i) ≡ true → is_some (own_state s i).inputs ≡ true
  pub unanswered : is_cached plan p && is_queued (phase_of s i) ≡ true → hit_of hits p.path ≡ None

-- The slot of an item of the array at p, which evaluation enters so.
pub record AgreesItem (plan : RunPlan) (results : Results) (s : ExecState) (p : PlanNode) (e : Entering) (item : ℕ) (slot : SlotState)
    : Type 0 where
  pub inputs : HasGivenInputs slot (given_item plan p e item)
  pub running : is_running slot.phase ≡ true → AreTriedAgain plan results p (item_slot p item) slot.attempt
  pub retryable : is_retryable slot.phase ≡ true → AreTriedAgain plan results p (item_slot p item) (slot.attempt + 1)
  pub succeeding : is_succeeding slot.phase ≡ true → SucceedsWith slot (attempts_of results (item_slot p item) (attempt_limit plan p)).verdict
  pub final : TellsVerdict slot (attempts_of results (item_slot p item) (attempt_limit plan p)).verdict
  pub aborted : is_aborted slot.phase ≡ true → is_broken plan s (instance_of p) ≡ true
  pub inside : IsUntouchedInside plan s p slot

-- The root, which has the inputs of the run.
pub record AgreesRoot (plan : RunPlan) (given : LiteralMap) (s : ExecState) (v : Verdict) : Type 0 where
  pub inputs : s.root.inputs ≡ Some given
  pub succeeding : is_succeeding s.root.phase ≡ true → SucceedsWith s.root v
  pub final : TellsVerdict s.root v
  pub aborted : is_aborted s.root.phase ≡ true → is_broken plan s [] ≡ true

-- ---- versions

-- the state agrees with evaluation over these inputs, results and answers of the catalog
pub record Agrees (plan : RunPlan) (inputs : LiteralMap) (results : Results) (hits : Hits) (s : ExecState) : Type 0 where
  pub root : AgreesRoot plan inputs s (root_verdict plan inputs results hits)
  pub nodes : (i : ℕ) (p : PlanNode) → node_numbered plan i ≡ Some p
      → AgreesNode plan results hits s i p ((whole_sight plan inputs results hits).entering i) ((whole_sight plan inputs results hits).verdict i)
  pub items : (i : ℕ) (p : PlanNode) (item : ℕ) (slot : SlotState) → node_numbered plan i ≡ Some p
      → slice_get (node_state s i).items item ≡ Some slot
      → AgreesItem plan results s p ((whole_sight plan inputs results hits).entering i) item slot
