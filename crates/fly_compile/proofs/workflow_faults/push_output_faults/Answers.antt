use Rattle.std.proofs.Common.{◌≡◌, ◌++◌, ◌∙◌, ap}
use Rattle.fly_docs.specs.declared.workflow.Workflow.{Workflow}
use Rattle.fly_faults.specs.declared.fault.Code.TheVariants as code
use Rattle.fly_faults.specs.BindingFaults.{bindings_faults, unbound_faults}
use Rattle.fly_faults.specs.FaultList.{outputs_site}
use Rattle.fly_faults.specs.Places.{outputs_place}
use Rattle.fly_faults.proofs.Loops.{on_ok}
use Rattle.fly_compile.proofs.NodeSites.{unbound-by}
use Rattle.fly_faults.proofs.Passes.{two}
use Rattle.fly_compile.proofs.WorkflowSteps.{outputs-same}
use Rattle.fly_compile.proofs.workflow_faults.push_output_faults.Goals as goal

pub returns : goal.returns
returns c =
    let s = c.args.sources.now in
    let w = s.workflow in
    let old = c.args.faults.now.items in
    let middle = c.push_bindings_faults.new.faults.items in
    let workflow : c.workflow-workflow.result.now ≡ w = c.workflow-workflow.ensures ∙ c.layout.ensures in
    let place : c.in_ok-place.place ≡ outputs_place w = c.in_ok-place.ensures ∙ ap outputs_place workflow in
    let outputs = ap (λ (x : Workflow). x.interface.outputs) workflow in
    let bound = c.as_slice.ensures ∙ ap (λ (x : Workflow). x.outputs) workflow in
    let site = outputs-same s c.in_ok-place.place c.workflow-workflow.result.now.interface.outputs place outputs in
    on_ok c.push_unbound_faults.result
    (λ last. two old middle c.push_unbound_faults.new.faults.items (bindings_faults (outputs_site s.bundle w) w.outputs)
    (unbound_faults code.OutputNotBound (outputs_place w) w.interface.outputs w.outputs)
    (c.in_ok-names.ensures.faults ∙ (λ i. old ++ bindings_faults (site i) (bound i)))
    (last
    ∙ ap (λ r. middle ++ r)
    (unbound-by c.as_slice.result.now c.in_ok-names.names c.in_ok-names.ensures.names code.OutputNotBound c.in_ok-place.place c.as_slice-2.result.now)
    ∙ (λ i. middle ++ unbound_faults code.OutputNotBound (place i) ((c.as_slice-2.ensures ∙ outputs) i) (bound i))))
    c.push_unbound_faults.ensures
