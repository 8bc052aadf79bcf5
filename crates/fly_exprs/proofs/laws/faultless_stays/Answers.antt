use Rattle.fly_exprs.proofs.LawLemmas.{faultless_stays}
use Rattle.fly_exprs.proofs.laws.faultless_stays.Goals as goal

pub returns : goal.returns
returns c = faultless_stays
