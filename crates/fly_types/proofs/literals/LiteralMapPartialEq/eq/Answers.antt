use Rattle.fly_types.proofs.SameLemmas.{answers_same_map}
use Rattle.fly_types.proofs.literals.LiteralMapPartialEq.eq.Goals as goal

pub returns-clause-value : goal.returns-clause-value
returns-clause-value c = answers_same_map _ _ _ c.is_same.ensures
