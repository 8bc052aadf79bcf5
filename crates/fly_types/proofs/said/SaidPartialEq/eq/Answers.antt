use Rattle.fly_types.proofs.SameLemmas.{answers_same_said}
use Rattle.fly_types.proofs.said.SaidPartialEq.eq.Goals as goal

pub returns-clause-value : goal.returns-clause-value
returns-clause-value c = answers_same_said _ _ _ c.is_same_said.ensures
