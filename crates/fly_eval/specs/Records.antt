-- What an evaluation is over is of its declared types.
use Rattle.std.specs.Prelude.{◌≡◌, ℕ, Contains, Option, Some}
use Rattle.fly_types.specs.declared.literals.LiteralMap.{LiteralMap}
use Rattle.fly_docs.specs.declared.attempt_name.AttemptName.{AttemptName}
use Rattle.fly_docs.specs.declared.workflow.Workflow.{Workflow}
use Rattle.fly_docs.specs.Lookups.{primary_of}
use Rattle.fly_docs.specs.Plans.{PlanNode}
use Rattle.fly_policy.specs.Outcome.{AreOutputs}
use Rattle.fly_policy.specs.declared.outcome.Outcome.{Outcome}
use Rattle.fly_policy.specs.declared.outcome.Outcome.TheVariants as outcome
use Rattle.fly_state.specs.Plans.{RunPlan, Path, node_numbered, number_of}
use Rattle.fly_state.specs.OfPlan.{item_output_variables, output_variables}
use Rattle.fly_eval.specs.declared.results.Results.{Results}
use Rattle.fly_eval.specs.declared.results.Hits.{Hits}

-- The inputs are those of the workflow, what an attempt that succeeded came to is what its task gives, and what the catalog had is what its
-- node gives.
pub record AreTypedRecords (plan : RunPlan) (inputs : LiteralMap) (results : Results) (hits : Hits) : Type 0 where
  pub submitted : (w : Workflow) → primary_of plan.documents ≡ Some w → AreOutputs w.interface.inputs inputs
  pub settled : (r : AttemptName × Outcome) (i : ℕ) (p : PlanNode) (outputs : LiteralMap) → Contains results.list r
      → number_of plan r.0.path ≡ Some i → node_numbered plan i ≡ Some p → r.1 ≡ outcome.Succeeded outputs
      → AreOutputs (item_output_variables plan p) outputs
  pub found : (h : Path × Option LiteralMap) (i : ℕ) (p : PlanNode) (outputs : LiteralMap) → Contains hits.list h
      → number_of plan h.0 ≡ Some i → node_numbered plan i ≡ Some p → h.1 ≡ Some outputs → AreOutputs (output_variables plan p) outputs
