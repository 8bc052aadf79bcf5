-- The nodes of a plan of task nodes in one workflow.
use Rattle.std.proofs.Common.{◌≡◌, ℕ, [], Option, Some, None, option_map, refl, sym, ◌∙◌, ap, subst}
use Rattle.std.specs.List.{slice_get}
use Rattle.std.proofs.lemmas.Option.{none-some, same_Some}
use Rattle.fly_docs.specs.declared.names.Identifier.{Identifier}
use Rattle.fly_docs.specs.declared.node.Node.{Node}
use Rattle.fly_docs.specs.declared.node.Target.{out-Target}
use Rattle.fly_docs.specs.declared.node.Target.TheOpen.{Target-F}
use Rattle.fly_docs.specs.declared.task.Task.{Task}
use Rattle.fly_docs.specs.declared.workflow.Workflow.{Workflow}
use Rattle.fly_docs.specs.Plans.{PlanNode}
use Rattle.fly_docs.specs.SlotInputs.{values_of, bound_value}
use Rattle.fly_state.specs.declared.slots.ExecState.{ExecState}
use Rattle.fly_state.specs.Inputs.{inputs_of_node}
use Rattle.fly_state.specs.Origins.{source_in_run}
use Rattle.fly_state.specs.PlanTables.{IsOuterPlan, outer_node}
use Rattle.fly_state.specs.Plans.{RunPlan, node_numbered, instance_of, task_of}
use Rattle.fly_state.specs.States.{known_in}
use Rattle.fly_state.proofs.AskedInputs.{plain-at, task-inputs}
use Rattle.fly_state.proofs.OuterPlans.{numbered-outer}
use Rattle.fly_state.proofs.PlanLemmas.{task_layer}

-- A node of the run's own instance: the task that it runs, and what it takes.
pub record TaskNode (plan : RunPlan) (s : ExecState) (p : PlanNode) : Type 0 where
  pub task : Task
  pub runs : task_of plan p ≡ Some task
  pub inside : instance_of p ≡ []
  pub id : Identifier
  pub target : out-Target p.node.target ≡ Target-F.Task id
  pub takes : inputs_of_node plan s p None
      ≡ values_of (bound_value (source_in_run plan) (known_in plan s [])) task.interface.inputs p.node.inputs

module _ (plan : RunPlan) (w : Workflow) (outer : IsOuterPlan plan w) (s : ExecState) where
  pub task-node : (i : ℕ) (p : PlanNode) → node_numbered plan i ≡ Some p → TaskNode plan s p
  task-node i p planned = by (slice_get w.nodes i) refl
    where
      numbered : (o : Option Node) → slice_get w.nodes i ≡ o → option_map (λ m. outer_node w (i, m)) o ≡ Some p
      numbered o there =
          sym (numbered-outer plan w outer i ∙ ap (option_map (λ m. outer_node w (i, m))) there) ∙ planned

      by : (o : Option Node) → slice_get w.nodes i ≡ o → TaskNode plan s p
      by None there = absurd (none-some p (numbered None there))
      by (Some n) there =
          let task = task-inputs plan w outer s i n there in
          let layer = task_layer (out-Target n.target) (plain-at plan w outer i n there) in
          subst (TaskNode plan s) (same_Some _ _ (numbered (Some n) there))
          (record { task = task.0; runs = task.1; inside = refl; id = layer.0; target = layer.1; takes = task.3 })
