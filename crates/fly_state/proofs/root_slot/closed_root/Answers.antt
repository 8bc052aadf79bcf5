use Rattle.std.proofs.Common.{[], codes, Some, Ok, Err, sym, ap, ◌∙◌, subst}
use Rattle.std.proofs.lemmas.Bool.{false≢true}
use Rattle.fly_docs.specs.SlotInputs.{workflow_outputs}
use Rattle.fly_state.specs.declared.slots.SlotState.{SlotState}
use Rattle.fly_state.specs.declared.values.ValueFault.{ValueFault}
use Rattle.fly_state.specs.Moves.{succeeded_slot, failed_slot}
use Rattle.fly_state.specs.States.{known_in}
use Rattle.fly_state.specs.Values.{IsTaken}
use Rattle.fly_state.proofs.EffectLemmas.{ok-some}
use Rattle.fly_state.proofs.EffectNodes.{closes-with}
use Rattle.fly_state.proofs.OuterTypes.{known-types}
use Rattle.fly_state.proofs.root_slot.closed_root.Goals as goal

pub run_outputs-requires : goal.run_outputs-requires
run_outputs-requires c =
    known-types c.args.p.now c.primary-primary.result.now c.primary-primary.ensures c.args.state.now c.requires.of_plan

pub unreachable-requires : goal.unreachable-requires
unreachable-requires c =
    let plan = c.args.p.now in
    let s = c.args.state.now in
    let w = c.primary-primary.result.now in
    let outputs = workflow_outputs plan.documents w (known_in plan s []) in
    let told = subst (λ (d : ValueFault). IsTaken outputs (Err d)) c.in-Err-Unknown.field-0-is
    (c.in-Err-Unknown.ensures w c.primary-primary.ensures.named) in
    let closes = closes-with plan w c.primary-primary.ensures s c.as_slice.result.now _
    c.requires.legal (sym c.has_failure.ensures ∙ c.if-has_failure.false) c.as_slice.ensures
    (sym c.misses_output.ensures ∙ c.if-misses_output.false) told in
    false≢true closes.0

pub returns-in-Ok : goal.returns-in-Ok
returns-in-Ok c =
    let plan = c.args.p.now in
    let s = c.args.state.now in
    let w = c.primary-primary.result.now in
    let closes = closes-with plan w c.primary-primary.ensures s c.as_slice.result.now
    (Ok c.in-Ok.outputs) c.requires.legal (sym c.has_failure.ensures ∙ c.if-has_failure.false) c.as_slice.ensures
    (sym c.misses_output.ensures ∙ c.if-misses_output.false) (c.in-Ok.ensures w c.primary-primary.ensures.named) in
    closes.1 ∙ ap (λ (slot : SlotState). Some (succeeded_slot slot c.in-Ok.outputs)) (sym c.in_ok-slot.ensures)

pub returns-in-Err-Outside : goal.returns-in-Err-Outside
returns-in-Err-Outside c =
    let plan = c.args.p.now in
    let s = c.args.state.now in
    let w = c.primary-primary.result.now in
    let outputs = workflow_outputs plan.documents w (known_in plan s []) in
    let told = subst (λ (d : ValueFault). IsTaken outputs (Err d)) c.in-Err-Outside.field-0-is
    (c.in-Err-Outside.ensures w c.primary-primary.ensures.named) in
    let closes = closes-with plan w c.primary-primary.ensures s c.as_slice.result.now _
    c.requires.legal (sym c.has_failure.ensures ∙ c.if-has_failure.false) c.as_slice.ensures
    (sym c.misses_output.ensures ∙ c.if-misses_output.false) told in
    ok-some _ _ c.failed_slot-in-Err-Outside.result
    (closes.1 ∙ ap (λ (slot : SlotState). Some (failed_slot slot (codes "EnumOutside"))) (sym c.in_ok-slot.ensures))
    c.failed_slot-in-Err-Outside.ensures
