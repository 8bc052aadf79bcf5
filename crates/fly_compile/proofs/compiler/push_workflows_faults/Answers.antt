use Rattle.std.proofs.Common.{ℕ, sym, subst}
use Rattle.std.specs.Borrow.{Bor}
use Rattle.fly_docs.specs.declared.workflow.Workflow.{Workflow}
use Rattle.fly_docs.specs.Form.{IsWorkflowInForm}
use Rattle.fly_compile.proofs.compiler.push_workflows_faults.Goals as goal

pub push_faults_of_workflow-requires-clause-workflow : goal.push_faults_of_workflow-requires-clause-workflow
push_faults_of_workflow-requires-clause-workflow c =
    subst (λ (at : ℕ × Bor Workflow). IsWorkflowInForm at.1.now) (sym c.loop-workflow-item.is)
    (c.requires.workflows c.loop-workflow.workflow-index c.loop-workflow-item.result c.loop-workflow-test.true)
