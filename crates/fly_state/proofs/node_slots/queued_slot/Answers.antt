use Rattle.std.proofs.Common.{None, Err, subst}
use Rattle.std.proofs.lemmas.Bool.{false≢true}
use Rattle.fly_state.specs.declared.values.ValueFault.{ValueFault}
use Rattle.fly_state.specs.Inputs.{inputs_of_node}
use Rattle.fly_state.specs.PlanTables.{outer_node}
use Rattle.fly_state.specs.Values.{IsTaken}
use Rattle.fly_state.proofs.EffectLemmas.{queued-taken}
use Rattle.fly_state.proofs.OuterPlans.{planned-outer}
use Rattle.fly_state.proofs.OuterTypes.{known-types}
use Rattle.fly_state.proofs.node_slots.queued_slot.Goals as goal

pub task_inputs-requires-clause-known : goal.task_inputs-requires-clause-known
task_inputs-requires-clause-known c =
    known-types c.args.p.now c.primary.result.now c.primary.ensures c.args.v.now.state c.requires.of_plan

pub unreachable-requires : goal.unreachable-requires
unreachable-requires c =
    let plan = c.args.p.now in
    let v = c.args.v.now in
    let i = c.args.number in
    let node = planned-outer plan c.primary.result.now c.primary.ensures i c.requires.number in
    let p = outer_node c.primary.result.now (i, node.0) in
    let wanted = inputs_of_node plan v.state p None in
    let told = subst (λ (d : ValueFault). IsTaken wanted (Err d)) c.in-Err-Outside.field-0-is
    (c.in-Err-Outside.ensures p node.1) in
    false≢true (queued-taken plan v i p node.1 _ c.requires.legal told)

pub unreachable-requires-in-Err-Unknown : goal.unreachable-requires-in-Err-Unknown
unreachable-requires-in-Err-Unknown c =
    let plan = c.args.p.now in
    let v = c.args.v.now in
    let i = c.args.number in
    let node = planned-outer plan c.primary.result.now c.primary.ensures i c.requires.number in
    let p = outer_node c.primary.result.now (i, node.0) in
    let wanted = inputs_of_node plan v.state p None in
    let told = subst (λ (d : ValueFault). IsTaken wanted (Err d)) c.in-Err-Unknown.field-0-is
    (c.in-Err-Unknown.ensures p node.1) in
    false≢true (queued-taken plan v i p node.1 _ c.requires.legal told)
