use Rattle.std.proofs.Common.{Some, sym, ◌∙◌, ap, subst}
use Rattle.std.specs.Option.{option_copied}
use Rattle.fly_types.proofs.SameLemmas.{answers_same_map}
use Rattle.fly_catalog.proofs.ReservationLemmas.{some_value}
use Rattle.fly_state.specs.Inputs.{inputs_at}
use Rattle.fly_state.specs.OfPlan.{IsOfPlan, may_ask_inputs_at}
use Rattle.fly_world.specs.Store.{spot_at}
use Rattle.fly_world.proofs.AttemptLemmas.{current-of_plan, asked-inputs, wanted-inputs}
use Rattle.fly_world.proofs.attempts.has_inputs.Goals as goal

pub inputs_of-requires-clause-of_plan : goal.inputs_of-requires-clause-of_plan
inputs_of-requires-clause-of_plan c =
    let s = c.args.store.now in
    let x = c.in-Some.versions.now in
    subst (λ p. IsOfPlan p c.current.result.now) (sym c.plan.ensures)
    (subst (IsOfPlan s.plan) (sym c.current.ensures)
    (current-of_plan s.plan s.world c.requires.sound.of_plan c.args.spot.execution x
    (sym c.execution.ensures ∙ ap option_copied c.in-Some.is)))

pub inputs_of-requires-clause-asked : goal.inputs_of-requires-clause-asked
inputs_of-requires-clause-asked c =
    let s = c.args.store.now in
    let x = c.in-Some.versions.now in
    let place = some_value (spot_at s.plan s.world c.args.spot) c.requires.there in
    (λ i. may_ask_inputs_at (c.plan.ensures i) (c.current.ensures i)
    (record { node = Some c.args.spot.node; item = c.args.name.now.item }))
    ∙ asked-inputs s.plan s.world c.args.spot place.0 place.1 c.args.name.now x
    (sym c.execution.ensures ∙ ap option_copied c.in-Some.is)
    (c.requires.runs place.0 place.1)

pub returns-in-Ok : goal.returns-in-Ok
returns-in-Ok c = λ place at.
    let s = c.args.store.now in
    let x = c.in-Some.versions.now in
    answers_same_map c.in-Ok.wanted c.args.inputs.now c.is_same.result c.is_same.ensures
    ∙ sym (wanted-inputs s.plan s.world c.args.spot place at c.args.name.now x
    (sym c.execution.ensures ∙ ap option_copied c.in-Some.is) c.in-Ok.wanted c.args.inputs.now
    (sym (λ i. inputs_at (c.plan.ensures i) (c.current.ensures i)
    (record { node = Some c.args.spot.node; item = c.args.name.now.item }))
    ∙ c.in-Ok.ensures))
