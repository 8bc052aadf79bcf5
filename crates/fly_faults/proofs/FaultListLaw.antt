-- A bundle in form has no fault exactly where it is typed and no node that is run needs itself.
use Rattle.std.proofs.Common.{◌≡◌, [], ◌++◌, map, flat_map, is_none, option_to_list, codes, ap, ◌∙◌}
use Rattle.std.proofs.lemmas.List.Elements.{All-contains}
use Rattle.fly_docs.specs.declared.task.Task.{Task}
use Rattle.fly_docs.specs.declared.workflow.Workflow.{Workflow}
use Rattle.fly_docs.specs.declared.workflow.Bundle.{Bundle}
use Rattle.fly_docs.specs.Acyclic.{RunsAcyclic}
use Rattle.fly_docs.specs.Form.{IsWorkflowInForm, IsBundleInForm}
use Rattle.fly_docs.specs.Lookups.{primary_of}
use Rattle.fly_docs.specs.Reaching.{IsReached, reached_workflows, reached_tasks}
use Rattle.fly_docs.specs.Typed.{IsTyped}
use Rattle.fly_faults.specs.declared.fault.Code.TheVariants as code
use Rattle.fly_faults.specs.Places.{fault_at}
use Rattle.fly_faults.specs.FaultList.{repeated_faults, primary_faults, bundle_faults, faults_of_workflow, template_faults, recursive_faults, limit_faults, or_limits, faults_of}
use Rattle.fly_faults.specs.Laws.{NoFaultsExactlyWhereTyped}
use Rattle.fly_faults.proofs.Lists.{append_none, append_nothing, flat_map_none, flat_map_nothing, in_option, one_if_none, one_if_nothing, some_without_none}
use Rattle.fly_faults.proofs.WorkflowFaultLemmas.{workflow_none, workflow_nothing}
use Rattle.fly_faults.proofs.TemplateLemmas.{templates_none, templates_nothing}
use Rattle.fly_faults.proofs.RunFaultLemmas.{IsWithinLimits, in_reached_tasks, in_reached_workflows, limits_none, limits_nothing, of_reached_tasks, of_reached_workflows, or_limits_none, reached_in, recursive_none, recursive_nothing, repeated_none, repeated_nothing}

module _ (b : Bundle) (form : IsBundleInForm b) where
  reached_form : (w : Workflow) → IsReached b w → IsWorkflowInForm w
  reached_form w reached = All-contains IsWorkflowInForm b.workflows w form.workflows (reached_in b w reached)

  typed_without_faults : faults_of b ≡ [] → IsTyped b × RunsAcyclic b
  typed_without_faults e =
      let workflows = flat_map (faults_of_workflow b) (reached_workflows b) in
      let templates = flat_map template_faults (reached_tasks b) in
      let p3 = append_none (bundle_faults b ++ workflows ++ templates) (or_limits b (recursive_faults b)) e in
      let p2 = append_none (bundle_faults b ++ workflows) templates p3.0 in
      let p1 = append_none (bundle_faults b) workflows p2.0 in
      let tasks = repeated_faults (codes "tasks") (map (λ (t : Task). t.id) b.tasks) in
      let others = repeated_faults (codes "workflows") (map (λ (w : Workflow). w.id) b.workflows) in
      let b2 = append_none (tasks ++ others) (primary_faults b) p1.0 in
      let b1 = append_none tasks others b2.0 in
      let primary =
      some_without_none (primary_of b)
      (one_if_none (is_none (primary_of b)) (fault_at code.WorkflowNotFound (codes "primary")) b2.1) in
      let run = or_limits_none b (recursive_faults b) p3.1 in
      let within =
      limits_none b primary.0
      (flat_map_none (limit_faults b) (option_to_list (primary_of b)) run.1 primary.0
      (in_option (primary_of b) primary.0 primary.1)) in
      let each = λ (w : Workflow) (reached : IsReached b w).
      workflow_none b w form (reached_form w reached)
      (flat_map_none (faults_of_workflow b) (reached_workflows b) p1.1 w (in_reached_workflows b w reached)) in (
        record {
          tasks = repeated_none (codes "tasks") (map (λ (t : Task). t.id) b.tasks) b1.0;
          workflows = repeated_none (codes "workflows") (map (λ (w : Workflow). w.id) b.workflows) b1.1;
          primary = primary.0;
          named = primary.1;
          typed = λ w reached. (each w reached).0;
          templates =
              λ t reached. templates_none t
              (flat_map_none template_faults (reached_tasks b) p2.1 t (in_reached_tasks b t reached));
          not_recursive = recursive_none b run.0;
          nesting = within.nesting;
          plan = within.plan;
          arrays = within.arrays;
        },
        λ w reached. (each w reached).1,
      )

  no_faults_where_typed : IsTyped b → RunsAcyclic b → faults_of b ≡ []
  no_faults_where_typed typed acyclic =
      let within : IsWithinLimits b = record { nesting = typed.nesting; plan = typed.plan; arrays = typed.arrays } in
      append_nothing _ _ (append_nothing _ _ (append_nothing _ _
      (append_nothing _ _ (append_nothing _ _
      (repeated_nothing (codes "tasks") (map (λ (t : Task). t.id) b.tasks) typed.tasks)
      (repeated_nothing (codes "workflows") (map (λ (w : Workflow). w.id) b.workflows) typed.workflows))
      (one_if_nothing (is_none (primary_of b)) (fault_at code.WorkflowNotFound (codes "primary"))
      (ap is_none typed.named)))
      (flat_map_nothing (faults_of_workflow b) (reached_workflows b) (λ w has.
      let reached = of_reached_workflows b w has in
      workflow_nothing b w form (reached_form w reached) (typed.typed w reached) (acyclic w reached))))
      (flat_map_nothing template_faults (reached_tasks b)
      (λ t has. templates_nothing t (typed.templates t (of_reached_tasks b t has)))))
      (ap (or_limits b) (recursive_nothing b typed.not_recursive)
      ∙ flat_map_nothing (limit_faults b) (option_to_list (primary_of b)) (λ w has. limits_nothing b w within))

pub no_faults_exactly_where_typed : NoFaultsExactlyWhereTyped
no_faults_exactly_where_typed b form =
    (typed_without_faults b form, λ both. no_faults_where_typed b form both.0 both.1)
