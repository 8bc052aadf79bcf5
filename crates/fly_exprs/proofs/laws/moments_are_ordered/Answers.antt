use Rattle.fly_exprs.proofs.MomentLemmas.{moments_in_order}
use Rattle.fly_exprs.proofs.laws.moments_are_ordered.Goals as goal

pub returns : goal.returns
returns c = moments_in_order
