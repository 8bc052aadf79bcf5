use Rattle.fly_types.proofs.SameLemmas.{answers_same_type}
use Rattle.fly_types.proofs.kinds.LiteralTypePartialEq.eq.Goals as goal

pub returns-clause-value : goal.returns-clause-value
returns-clause-value c = answers_same_type _ _ _ c.is_same_type.ensures
