use Rattle.std.proofs.Common.{◌≡◌, [], sym, ap, ◌∙◌, subst}
use Rattle.std.proofs.lemmas.Option.{same_Some}
use Rattle.fly_docs.specs.declared.workflow.Workflow.{Workflow}
use Rattle.fly_docs.specs.SlotInputs.{bound_value, values_of, workflow_outputs}
use Rattle.fly_state.specs.Origins.{source_in_run}
use Rattle.fly_state.specs.States.{known_in}
use Rattle.fly_state.specs.Values.{IsTaken, FitVariables}
use Rattle.fly_state.proofs.AskedInputs.{sources-same}
use Rattle.fly_state.proofs.EffectNodes.{fit-outputs}
use Rattle.fly_state.proofs.taking.run_outputs.Goals as goal

pub take_variables-requires-clause-fit : goal.take_variables-requires-clause-fit
take_variables-requires-clause-fit c =
    let plan = c.args.plan.now in
    let w = c.primary-primary.result.now in
    subst (FitVariables (source_in_run plan) w.outputs) (sym c.as_slice.ensures) (fit-outputs plan w c.primary-primary.ensures)

pub returns : goal.returns
returns c = λ v named.
    let plan = c.args.plan.now in
    let w = c.primary-primary.result.now in
    let known = known_in plan c.args.state.now [] in
    let sources = sources-same plan w c.primary-primary.ensures in
    let same : w ≡ v = same_Some _ _ (sym c.primary-primary.ensures.named ∙ named) in
    let declared = c.as_slice.ensures in
    subst (λ wanted. IsTaken wanted c.take_variables.result)
    ((λ i. values_of (bound_value (sources i) known) (declared i) w.outputs)
    ∙ ap (λ (u : Workflow). workflow_outputs plan.documents u known) same)
    c.take_variables.ensures
