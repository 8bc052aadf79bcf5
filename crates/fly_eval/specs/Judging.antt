-- One pass of evaluation along the plan: the state that tells the verdicts so far, and what is told of a node over it.
use Rattle.std.specs.Prelude.{◌≡◌, ℕ, ◌<◌, Bool, true, false, List, [], length, slice_get, slice_set, replicate, Some, None, unwrap_or, IfSome}
use Rattle.fly_types.specs.declared.literals.LiteralMap.{LiteralMap}
use Rattle.fly_docs.specs.declared.workflow.Workflow.{Workflow}
use Rattle.fly_docs.specs.Lookups.{primary_of}
use Rattle.fly_docs.specs.Plans.{PlanNode}
use Rattle.fly_policy.specs.Outcome.{AreOutputs}
use Rattle.fly_policy.specs.declared.outcome.Outcome.{Outcome}
use Rattle.fly_policy.specs.declared.retries.Next.{Next}
use Rattle.fly_policy.specs.declared.retries.Next.TheVariants as next
use Rattle.fly_rules.specs.Rules.{values_at}
use Rattle.fly_state.specs.declared.phase.Phase.TheVariants as phase
use Rattle.fly_state.specs.declared.slots.SlotState.{SlotState}
use Rattle.fly_state.specs.declared.slots.NodeState.{NodeState}
use Rattle.fly_state.specs.declared.slots.ExecState.{ExecState}
use Rattle.fly_state.specs.declared.standing.Standing.{Standing as Told}
use Rattle.fly_state.specs.declared.standing.Standing.TheVariants as tells
use Rattle.fly_state.specs.Plans.{RunPlan, node_numbered, looks}
use Rattle.fly_state.specs.States.{fresh_slot, fresh_node, own_state}
use Rattle.fly_state.specs.Standing.{known_standing, standing_by}
use Rattle.fly_state.specs.Inputs.{inputs_of_node}
use Rattle.fly_state.specs.Moves.{outputs_of_outcome, code_of_outcome}
use Rattle.fly_state.specs.OfPlan.{output_variables}
use Rattle.fly_eval.specs.declared.verdict.Verdict.{Verdict}
use Rattle.fly_eval.specs.declared.verdict.Verdict.TheVariants as verdict
use Rattle.fly_eval.specs.declared.results.Results.{Results}
use Rattle.fly_eval.specs.declared.results.Hits.{Hits}
use Rattle.fly_eval.specs.declared.seen.Seen.{Seen}
use Rattle.fly_eval.specs.declared.attempts.Attempted.{Attempted}
use Rattle.fly_eval.specs.declared.judging.Judged.{Judged}
use Rattle.fly_eval.specs.declared.passes.Pass.{Pass}
use Rattle.fly_eval.specs.Attempts.{Attempts, no_outputs}
use Rattle.fly_eval.specs.Evaluation.{Entering, Sight, verdict_by, task_attempts, seen_attempts, whole_sight}

-- ---- attempts

abbrev pub attempts_in : Attempted → Attempts
attempts_in made = record { verdict = made.verdict; count = made.count }

-- the verdict by the last attempt
abbrev pub verdict_after : Outcome → Next → Verdict
verdict_after o next.Done = verdict.Succeeded (unwrap_or (outputs_of_outcome o) no_outputs)
verdict_after o next.Failed = verdict.Failed (unwrap_or (code_of_outcome o) [])
verdict_after o next.TimedOut = verdict.TimedOut
verdict_after o next.Again = verdict.Pending

-- another attempt follows
abbrev pub is_again : Next → Bool
is_again next.Again = true
is_again _ = false

-- ---- a node

-- the slot that tells a verdict; that of a node that is pending or blocked is as it was
abbrev pub slot_of : Verdict → SlotState
slot_of verdict.Skipped = record fresh_slot { phase = phase.Skipped }
slot_of (verdict.Failed code) = record fresh_slot { phase = phase.Failed }
slot_of verdict.TimedOut = record fresh_slot { phase = phase.TimedOut }
slot_of (verdict.Succeeded outputs) = record fresh_slot { phase = phase.Succeeded; outputs = Some outputs }
slot_of _ = fresh_slot

-- how a node stands of that verdict, where its slot does not tell it
abbrev pub told_standing : Verdict → Told
told_standing verdict.Pending = tells.Waiting
told_standing _ = tells.Blocked

-- how a node is entered over a state and what is known of how others stand
abbrev pub entering_over : RunPlan → ExecState → List Told → ℕ → PlanNode → Entering
entering_over plan s known i p = record {
  standing = standing_by plan s i (values_at (known_standing known) (looks plan i));
  inputs = inputs_of_node plan s p None;
}

-- what a task node comes to that is so entered
pub record IsJudged (plan : RunPlan) (results : Results) (hits : Hits) (p : PlanNode) (e : Entering) (judged : Judged) : Type 0 where
  pub verdict_is : judged.verdict ≡ verdict_by e.standing e.inputs (λ given. (task_attempts plan results hits p).verdict)
  pub attempts_are : judged.attempts ≡ seen_attempts plan results hits p e

-- ---- the pass

abbrev pub node_told : Verdict → NodeState
node_told v = record { own = slot_of v; items = [] }

abbrev pub seen_of : PlanNode → Judged → Seen
seen_of p judged = record { path = p.path; item = None; verdict = judged.verdict; attempts = judged.attempts }

-- the pass with the node of this number judged
abbrev pub with_judged : Pass → ℕ → PlanNode → Judged → Pass
with_judged pass i p judged = record {
  state = record pass.state { nodes = slice_set pass.state.nodes i (node_told judged.verdict) };
  known = slice_set pass.known i (told_standing judged.verdict);
  seen = slice_set pass.seen i (seen_of p judged);
}

-- What each pass keeps: a place for each node, the inputs of the run, and values of declared types.
pub record IsPass (plan : RunPlan) (inputs : LiteralMap) (pass : Pass) : Type 0 where
  pub nodes_each : length pass.state.nodes ≡ length plan.nodes
  pub known_each : length pass.known ≡ length plan.nodes
  pub seen_each : length pass.seen ≡ length plan.nodes
  pub submitted : pass.state.root.inputs ≡ Some inputs
  pub taken : (w : Workflow) → primary_of plan.documents ≡ Some w → AreOutputs w.interface.inputs inputs
  pub given : (i : ℕ) (p : PlanNode) → node_numbered plan i ≡ Some p
      → IfSome (own_state pass.state i).outputs (AreOutputs (output_variables plan p))

-- what is told of a node is what is seen of it
pub record TellsNode (plan : RunPlan) (results : Results) (hits : Hits) (sight : Sight) (pass : Pass) (i : ℕ) : Type 0 where
  pub slot_is : own_state pass.state i ≡ slot_of (sight.verdict i)
  pub standing_is : slice_get pass.known i ≡ Some (told_standing (sight.verdict i))
  pub seen_is : (p : PlanNode) → node_numbered plan i ≡ Some p → slice_get pass.seen i ≡ Some (record {
    path = p.path;
    item = None;
    verdict = sight.verdict i;
    attempts = seen_attempts plan results hits p (sight.entering i);
  })

-- the pass before any node is judged
pub record IsFirstPass (plan : RunPlan) (inputs : LiteralMap) (pass : Pass) : Type 0 where
  pub nodes_are : pass.state.nodes ≡ replicate (length plan.nodes) fresh_node
  pub known_each : length pass.known ≡ length plan.nodes
  pub seen_each : length pass.seen ≡ length plan.nodes
  pub submitted : pass.state.root.inputs ≡ Some inputs

-- the pass once all nodes are judged
pub record TellsAll (plan : RunPlan) (inputs : LiteralMap) (results : Results) (hits : Hits) (pass : Pass) : Type 0 where
  pub holds : IsPass plan inputs pass
  pub tells : (i : ℕ) → i < length plan.nodes → TellsNode plan results hits (whole_sight plan inputs results hits) pass i
