use Rattle.std.proofs.Common.{[], ◌++◌, ◌∙◌, ap}
use Rattle.fly_docs.specs.declared.workflow.Bundle.{Bundle}
use Rattle.fly_docs.specs.Reaching.{reached_places, reached_tasks}
use Rattle.fly_faults.specs.FaultList.{bundle_faults, or_limits, recursive_faults}
use Rattle.fly_faults.proofs.Loops.{four}
use Rattle.fly_compile.proofs.RunSteps.{workflows_in_form, tasks_in_form, faults_of_reached, faults_of_tasks}
use Rattle.fly_compile.proofs.compiler.faults_of.Goals as goal

pub push_workflows_faults-requires-clause-workflows : goal.push_workflows_faults-requires-clause-workflows
push_workflows_faults-requires-clause-workflows c =
    workflows_in_form c.args.directory.now c.requires.form c.workflows.result.now (c.workflows.ensures ∙ ap reached_places c.requires.reach)

pub push_tasks_faults-requires : goal.push_tasks_faults-requires
push_tasks_faults-requires c =
    tasks_in_form c.args.directory.now c.requires.form c.tasks.result.now (c.tasks.ensures ∙ ap reached_tasks c.requires.reach)

pub returns : goal.returns
returns c =
    let b = c.args.directory.now in
    let first = c.push_bundle_faults.new.faults.items in
    let second = c.push_workflows_faults.new.faults.items in
    let third = c.push_tasks_faults.new.faults.items in
    four [] first second third c.push_run_faults.new.faults.items _ _ _ _
    (c.in_ok-push_bundle_faults.ensures ∙ ap (λ r. r ++ bundle_faults b) c.new-faults.ensures.items)
    (c.in_ok-push_workflows_faults.ensures
    ∙ ap (λ r. first ++ r) (faults_of_reached b c.workflows.result.now (c.workflows.ensures ∙ ap reached_places c.requires.reach)))
    (c.in_ok-push_tasks_faults.ensures
    ∙ ap (λ r. second ++ r) (faults_of_tasks b c.tasks.result.now (c.tasks.ensures ∙ ap reached_tasks c.requires.reach)))
    (c.in_ok-push_run_faults.ensures ∙ ap (λ (x : Bundle). third ++ or_limits x (recursive_faults x)) c.requires.reach)
