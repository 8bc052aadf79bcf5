use Rattle.std.proofs.Common.{sym, ◌∙◌}
use Rattle.fly_state.specs.States.{own_state}
use Rattle.fly_round.proofs.PathLemmas.{at-number, off-number}
use Rattle.fly_round.proofs.attempts.if_attempt.Goals as goal

pub returns-then-attempt_at-attempt-clause-present : goal.returns-then-attempt_at-attempt-clause-present
returns-then-attempt_at-attempt-clause-present c = λ i.
    at-number i c.args.number c.args.attempt (λ j. (own_state c.args.v.now.state j).attempt) (sym c.attempt_at.ensures ∙ c.if-attempt_at-attempt.true)

pub returns-else-attempt_at-attempt-clause-present : goal.returns-else-attempt_at-attempt-clause-present
returns-else-attempt_at-attempt-clause-present c = λ i.
    off-number i c.args.number c.args.attempt (λ j. (own_state c.args.v.now.state j).attempt)
    (λ same. c.if-attempt_at-attempt.false (c.attempt_at.ensures ∙ same))
