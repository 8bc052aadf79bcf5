-- The task of a node in a plan of task nodes.
use Rattle.std.proofs.Common.{◌≡◌, ℕ, cond, Some, None, refl, sym, ◌∙◌, ap, subst}
use Rattle.std.specs.Prelude.{◌==◌, unwrap_or, option_map, Option}
use Rattle.fly_docs.specs.declared.task.Task.{Task}
use Rattle.fly_world.specs.Spots.{timeout_of}
use Rattle.std.specs.Option.{option_and_then}
use Rattle.std.proofs.lemmas.Option.{same_Some, slice_get_within}
use Rattle.fly_docs.specs.declared.node.Node.{Node}
use Rattle.fly_docs.specs.declared.node.Case.{Case}
use Rattle.fly_docs.specs.declared.node.Target.{Target, out-Target}
use Rattle.fly_docs.specs.declared.node.Target.TheOpen.{Target-F}
use Rattle.fly_docs.specs.declared.workflow.Workflow.{Workflow}
use Rattle.fly_docs.specs.declared.workflow.Bundle.{Bundle}
use Rattle.fly_docs.specs.Lookups.{task_named}
use Rattle.fly_docs.specs.Plans.{PlanNode}
use Rattle.fly_docs.specs.Reaching.{task_id_in}
use Rattle.fly_docs.specs.Readable.{IsTaskTarget}
use Rattle.fly_state.specs.Moves.{task_run_by}
use Rattle.fly_state.specs.Plans.{RunPlan, node_numbered, task_target, task_of}
use Rattle.fly_state.specs.PlanTables.{IsOuterPlan}
use Rattle.fly_state.proofs.OuterPlans.{planned-outer}

task_same : (b : Bundle) (t : Target-F Target Case Node) → IsTaskTarget t
    → option_and_then (task_named b) (task_id_in t) ≡ task_target b t
task_same b (Target-F.Task id) plain = refl
task_same b (Target-F.Workflow id) plain = absurd plain
task_same b (Target-F.Branch cases otherwise error) plain = absurd plain
task_same b (Target-F.Array task min_successes) plain = absurd plain

-- a node that the plan has runs the task of a task node
pub run_by-outer : (plan : RunPlan) (w : Workflow) → IsOuterPlan plan w → (i : ℕ) (p : PlanNode)
    → node_numbered plan i ≡ Some p → task_run_by plan p ≡ task_of plan p
run_by-outer plan w outer i p here =
    let at = planned-outer plan w outer i (slice_get_within plan.nodes i p here) in
    subst (λ (q : PlanNode). task_run_by plan q ≡ task_of plan q) (same_Some _ p (sym at.1 ∙ here))
    (task_same plan.documents (out-Target at.0.target) at.2)

-- where neither the node nor its task has a timeout there is none
pub no_timeout : (plan : RunPlan) (p : PlanNode) → p.node.timeout_ms ≡ 0 → task_run_by plan p ≡ None
    → 0 ≡ timeout_of plan p
no_timeout plan p own none =
    subst (λ t. 0 ≡ cond (t == 0) (unwrap_or (option_map (λ (x : Task). x.timeout_ms) (task_run_by plan p)) 0) t) (sym own)
    (sym (ap (λ r. unwrap_or (option_map (λ (x : Task). x.timeout_ms) r) 0) none))

-- the task that runs at a number, where the plan has it
pub run_by-numbered : (plan : RunPlan) (w : Workflow) → IsOuterPlan plan w → (i : ℕ)
    → option_and_then (task_run_by plan) (node_numbered plan i) ≡ option_and_then (task_of plan) (node_numbered plan i)
run_by-numbered plan w outer i = by (node_numbered plan i) refl
  where
    by : (o : Option PlanNode) → node_numbered plan i ≡ o
        → option_and_then (task_run_by plan) o ≡ option_and_then (task_of plan) o
    by None here = refl
    by (Some p) here = run_by-outer plan w outer i p here
