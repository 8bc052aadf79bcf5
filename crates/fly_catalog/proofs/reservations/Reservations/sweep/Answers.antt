use Rattle.std.proofs.Common.{rules}
use Rattle.std.specs.Prelude.{not}
use Rattle.std.proofs.lemmas.Map.Made.{filter_same_pairs}
use Rattle.fly_catalog.proofs.reservations.Reservations.sweep.Goals as goal

pub returns-clause-entries : goal.returns-clause-entries
returns-clause-entries g c =
    filter_same_pairs _ (λ e. not (g.T.OwnerTest.ends c.args.test.now e.1.owner)) _ (λ k v b w f' t. search rules) _ _ c.retain.ensures.filtered
