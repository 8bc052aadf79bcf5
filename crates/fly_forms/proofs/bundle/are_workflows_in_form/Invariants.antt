use Rattle.std.proofs.Common.{take}
use Rattle.std.specs.List.{All}
use Rattle.fly_docs.specs.Form.{IsWorkflowInForm}
use Rattle.fly_forms.proofs.bundle.are_workflows_in_form.Given as goal

abbrev pub invariant-loop-workflow : goal.invariant-loop-workflow
invariant-loop-workflow l = All IsWorkflowInForm (take l.workflow-index l.workflows)
