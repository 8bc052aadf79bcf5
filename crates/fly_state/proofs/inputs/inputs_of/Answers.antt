use Rattle.std.proofs.Common.{◌≡◌, Some, None, IsTrue, is_some, Ok, sym, ap, ◌∙◌, subst}
use Rattle.std.proofs.lemmas.Bool.{false≢true}
use Rattle.fly_types.specs.declared.literals.LiteralMap.{LiteralMap}
use Rattle.fly_docs.specs.SlotInputs.{Taken, or_unknown}
use Rattle.fly_state.specs.declared.moves.At.{At}
use Rattle.fly_state.specs.Inputs.{IsAnswer, inputs_at}
use Rattle.fly_state.specs.OfPlan.{may_ask_inputs_at}
use Rattle.fly_state.proofs.AskedInputs.{no-items, at-root}
use Rattle.fly_state.proofs.inputs.inputs_of.Goals as goal

pub inputs_of_node-requires-clause-asked : goal.inputs_of_node-requires-clause-asked
inputs_of_node-requires-clause-asked c =
    let here : c.args.at.now ≡ record { node = Some c.in-Some.number; item = None } = λ i. record { node = c.in-Some.is i; item = c.in-None-item.is i } in
    subst (λ (at : At). IsTrue (may_ask_inputs_at c.args.p.now c.args.s.now at)) here c.requires.asked

pub unreachable-requires : goal.unreachable-requires
unreachable-requires c =
    let here : c.args.at.now ≡ record { node = Some c.in-Some.number; item = Some c.in-Some-item.field-0 } =
    λ i. record { node = c.in-Some.is i; item = c.in-Some-item.is i } in
    no-items c.args.p.now c.primary.result.now c.primary.ensures c.args.s.now c.requires.of_plan c.in-Some.number c.in-Some-item.field-0
    (subst (λ (at : At). IsTrue (may_ask_inputs_at c.args.p.now c.args.s.now at)) here c.requires.asked)

pub unreachable-requires-in-None-inputs : goal.unreachable-requires-in-None-inputs
unreachable-requires-in-None-inputs c =
    false≢true (sym (ap is_some c.in-None-inputs.is) ∙ (c.requires.of_plan.root c.primary.result.now c.primary.ensures.named).has_inputs)

pub returns-in-None-item : goal.returns-in-None-item
returns-in-None-item c =
    let here : c.args.at.now ≡ record { node = Some c.in-Some.number; item = None } = λ i. record { node = c.in-Some.is i; item = c.in-None-item.is i } in
    subst (λ (at : At). IsAnswer (inputs_at c.args.p.now c.args.s.now at) c.inputs_of_node.result) (sym here) c.inputs_of_node.ensures

pub returns-in-Some-inputs : goal.returns-in-Some-inputs
returns-in-Some-inputs c =
    let wanted = at-root c.args.p.now c.primary.result.now c.primary.ensures c.args.s.now c.requires.of_plan c.args.at.now c.in-None.is
    ∙ ap or_unknown c.in-Some-inputs.is in
    subst (λ (x : Taken LiteralMap). IsAnswer x c.copied.result) (sym wanted) c.copied.ensures
