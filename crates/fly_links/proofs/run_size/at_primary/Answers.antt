use Rattle.std.proofs.Common.{length, sym, subst}
use Rattle.fly_links.specs.Search.{AreBelow}
use Rattle.fly_links.proofs.ReachLemmas.{runs_below}
use Rattle.fly_links.proofs.run_size.at_primary.Goals as goal

pub totals-requires-clause-below : goal.totals-requires-clause-below
totals-requires-clause-below c = subst (λ runs. AreBelow (length runs) runs) (sym c.requires.runs) (runs_below c.args.directory.now)
