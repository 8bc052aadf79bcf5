-- The law that every legal journal agrees with plain evaluation.
use Rattle.std.specs.Prelude.{◌≡◌, ℕ, List, Contains, slice_get, Some}
use Rattle.fly_types.specs.declared.literals.LiteralMap.{LiteralMap}
use Rattle.fly_docs.specs.declared.attempt_name.AttemptName.{AttemptName}
use Rattle.fly_docs.specs.declared.workflow.Workflow.{Workflow}
use Rattle.fly_state.specs.declared.slots.ExecState.{ExecState}
use Rattle.fly_state.specs.declared.entries.Entry.{Entry}
use Rattle.fly_state.specs.Plans.{RunPlan}
use Rattle.fly_state.specs.PlanTables.{IsOuterPlan}
use Rattle.fly_eval.specs.declared.seen.Seen.{Seen}
use Rattle.fly_eval.specs.declared.seen.Evaluated.{Evaluated}
use Rattle.fly_eval.specs.Evaluation.{evaluation_of}
use Rattle.fly_agreement.specs.Agreement.{Agrees}
use Rattle.fly_agreement.specs.Laws.{HasNoCached}
use Rattle.fly_world.specs.World.{World, Execution, Launch}
use Rattle.fly_world.specs.Journals.{IsHistory}
use Rattle.fly_world.specs.ReadOff.{versions_of}
use Rattle.fly_history.specs.Recorded.{recorded_results, recorded_hits}

-- what plain evaluation makes of an execution, over what the journal records of it
abbrev pub recorded_evaluation : RunPlan → List Entry → Execution → Evaluated
recorded_evaluation plan journal x = evaluation_of plan x.inputs (recorded_results journal x.name) (recorded_hits journal x.name)

-- the inputs are those that evaluation gives this attempt of its slot
abbrev pub HasEvaluatedInputs : Evaluated → AttemptName → LiteralMap → Type 0
HasEvaluatedInputs e name inputs =
    (x : Seen) × Contains e.list x × (x.path ≡ name.path) × (x.item ≡ name.item) × (slice_get x.attempts name.attempt ≡ Some inputs)

-- The executions of a store against plain evaluation, over what the journal records of them.
pub record IsPlainlyEvaluated (plan : RunPlan) (journal : List Entry) (w : World) : Type 0 where
  -- each version agrees
  pub versions : (i : ℕ) (x : Execution) (s : ExecState) → slice_get w.executions i ≡ Some x → Contains (versions_of x) s
      → Agrees plan x.inputs (recorded_results journal x.name) (recorded_hits journal x.name) s
  -- what is launched has the inputs that evaluation gives its attempt
  pub launches : (l : Launch) (i : ℕ) (x : Execution) → Contains w.launches l → slice_get w.executions i ≡ Some x
      → l.name.exec ≡ x.name → HasEvaluatedInputs (recorded_evaluation plan journal x) l.name l.inputs

-- every legal journal of a plan of task nodes that are not cached agrees with plain evaluation
abbrev pub LegalJournalsAgree : Type 0
LegalJournalsAgree =
    (plan : RunPlan) (f : Workflow) (closure : List ℕ) (journal : List Entry) (w : World) → IsOuterPlan plan f → HasNoCached plan
    → IsHistory plan closure journal w → IsPlainlyEvaluated plan journal w
