use Rattle.fly_policy.proofs.SameLemmas.{answers_same_outcome}
use Rattle.fly_policy.proofs.outcome.OutcomePartialEq.eq.Goals as goal

pub returns-clause-value : goal.returns-clause-value
returns-clause-value c = answers_same_outcome _ _ _ c.is_same.ensures
