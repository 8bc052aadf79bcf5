use Rattle.std.proofs.Common.{option_and_then, sym, ◌∙◌, ap, subst}
use Rattle.std.specs.Prelude.{IfSome, IsSome}
use Rattle.fly_catalog.proofs.ReservationLemmas.{some_value}
use Rattle.fly_policy.specs.declared.outcome.Outcome.TheVariants as outcomes
use Rattle.fly_world.specs.Steps as steps
use Rattle.fly_world.specs.Store.{spot_at}
use Rattle.fly_world.proofs.attempts.is_outcome_at.Goals as goal

pub returns-in-Some : goal.returns-in-Some
returns-in-Some c =
    let s = c.args.store.now in
    let at = spot_at s.plan s.world in
    let there = some_value (at c.in-Some.spot) (subst (λ o. IfSome o (λ x. IsSome (at x))) c.in-Some.is c.requires) in
    c.are_outputs_at.ensures there.0 there.1
    ∙ sym ((λ i. steps.is_outcome_at s.plan (c.in-Succeeded.is i) (option_and_then at (c.in-Some.is i)))
    ∙ ap (steps.is_outcome_at s.plan (outcomes.Succeeded c.in-Succeeded.outputs)) there.1)
