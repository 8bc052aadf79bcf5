use Rattle.fly_catalog.proofs.KeyLemmas.{dataset_key_kept}
use Rattle.fly_catalog.proofs.names.Names.add_all.Goals as goal

pub returns-clause-owner : goal.returns-clause-owner
returns-clause-owner c = dataset_key_kept _ _ c.in_ok-first.ensures.kept _ _ c.in_ok-owner.ensures.key
