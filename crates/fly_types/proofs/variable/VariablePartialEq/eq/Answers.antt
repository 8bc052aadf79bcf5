use Rattle.fly_types.proofs.SameLemmas.{answers_same_variable}
use Rattle.fly_types.proofs.variable.VariablePartialEq.eq.Goals as goal

pub returns-clause-value : goal.returns-clause-value
returns-clause-value c = answers_same_variable _ _ _ c.is_same_variable.ensures
