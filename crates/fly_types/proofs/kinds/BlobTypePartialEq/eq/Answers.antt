use Rattle.fly_types.proofs.SameLemmas.{answers_same_form}
use Rattle.fly_types.proofs.kinds.BlobTypePartialEq.eq.Goals as goal

pub returns-clause-value : goal.returns-clause-value
returns-clause-value c = answers_same_form _ _ _ c.is_same_form.ensures
