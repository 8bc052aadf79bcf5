use Rattle.std.proofs.Common.{ℕ, ◌==◌, List, length, ◌++◌, ◌∷◌, [], ◌∙◌, ap, sym}
use Rattle.std.specs.Borrow.{Bor}
use Rattle.std.proofs.lemmas.Bool.{true≢false}
use Rattle.fly_types.specs.declared.text.Text.{Text}
use Rattle.fly_docs.specs.declared.workflow.Workflow.{Workflow}
use Rattle.fly_faults.specs.declared.fault.Code.TheVariants as code
use Rattle.fly_faults.specs.Places.{workflow_name, fault_with}
use Rattle.fly_faults.specs.TypeText.{listed}
use Rattle.fly_faults.proofs.Loops.{on_ok}
use Rattle.fly_compile.proofs.WorkflowSteps.{cycle-by}
use Rattle.fly_compile.proofs.workflow_faults.push_cycle_fault.Goals as goal

pub returns : goal.returns
returns c =
    let old = c.args.faults.now.items in
    let detail = c.in_ok-detail.detail in
    on_ok c.report_with.result
    (λ last. last
    ∙ ap (λ (w : Workflow). old ++ fault_with code.CycleDetected (workflow_name w) detail ∷ []) c.workflow.ensures
    ∙ ap (λ r. old ++ r)
    (cycle-by c.args.layout.now c.args.places.now c.in_ok-ids.ids.items detail
    (λ none. true≢false (sym (ap (λ (ps : List ℕ). length ps == 0) none) ∙ sym c.is_empty.ensures ∙ c.if-is_empty.false))
    c.in_ok-ids.ensures
    (c.in_ok-detail.ensures ∙ ap (listed (λ (text : Bor Text). text.now)) c.deref.ensures.value)))
    c.report_with.ensures
