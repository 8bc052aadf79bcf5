use Rattle.fly_types.proofs.SameLemmas.{answers_same_tree}
use Rattle.fly_types.proofs.literals.TreePartialEq.eq.Goals as goal

pub returns-clause-value : goal.returns-clause-value
returns-clause-value c = answers_same_tree _ _ _ c.is_same_tree.ensures
