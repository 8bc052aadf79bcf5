use Rattle.fly_types.proofs.SameLemmas.{answers_same_literal}
use Rattle.fly_types.proofs.literals.LiteralPartialEq.eq.Goals as goal

pub returns-clause-value : goal.returns-clause-value
returns-clause-value c = answers_same_literal _ _ _ c.is_same_literal.ensures
