use Rattle.fly_exprs.proofs.LawLemmas.{opposites_differ}
use Rattle.fly_exprs.proofs.laws.opposites_differ.Goals as goal

pub returns : goal.returns
returns c = opposites_differ
