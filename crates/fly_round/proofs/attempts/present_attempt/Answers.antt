use Rattle.std.proofs.Common.{◌&&◌, ◌==◌, sym, ap, ◌∙◌}
use Rattle.fly_state.specs.States.{own_state}
use Rattle.fly_round.specs.Attempts.{is_number}
use Rattle.fly_round.proofs.PathLemmas.{attempt-number, attempt-other}
use Rattle.fly_round.proofs.attempts.present_attempt.Goals as goal

pub returns-then-not-is_own-clause-present : goal.returns-then-not-is_own-clause-present
returns-then-not-is_own-clause-present c = λ i p planned.
    attempt-other c.args.plan.now c.primary-primary.result.now c.primary-primary.ensures c.args.v.now p (own_state c.args.v.now.state i).attempt c.args.name.now (sym c.is_own.ensures ∙ c.if-not-is_own.true)

pub returns-in-None-clause-present : goal.returns-in-None-clause-present
returns-in-None-clause-present c = λ i p planned.
    let a = (own_state c.args.v.now.state i).attempt in
    attempt-number c.args.plan.now c.primary-primary.result.now c.primary-primary.ensures c.args.v.now i p a c.args.name.now planned
    (sym c.is_own.ensures ∙ c.if-not-is_own.false)
    ∙ ap (λ o. is_number i o && (a == c.args.name.now.attempt)) (sym c.in-None.ensures)

pub returns-in-Some-clause-present : goal.returns-in-Some-clause-present
returns-in-Some-clause-present c = λ i p planned.
    let a = (own_state c.args.v.now.state i).attempt in
    attempt-number c.args.plan.now c.primary-primary.result.now c.primary-primary.ensures c.args.v.now i p a c.args.name.now planned
    (sym c.is_own.ensures ∙ c.if-not-is_own.false)
    ∙ ap (λ o. is_number i o && (a == c.args.name.now.attempt)) (sym c.in-Some.ensures)
    ∙ c.if_attempt.ensures.present i
