use Rattle.fly_catalog.specs.Catalog.{dataset_cmp}
use Rattle.fly_catalog.proofs.KeyLemmas.{exact_dataset}
use Rattle.fly_catalog.proofs.TableLemmas.{filled, forgotten_again}
use Rattle.fly_catalog.proofs.table.push_all.Goals as goal

pub returns-in-Ok-clause-dataset : goal.returns-in-Ok-clause-dataset
returns-in-Ok-clause-dataset c =
    filled dataset_cmp _ _ _ c.args.datasets.now.places c.prepare.new.self.places c.fill.new.self.places c.args.dataset_key c.in_ok-prepare.ensures.items
    c.in_ok-prepare.ensures.places c.args.dataset c.fill.ensures.items c.fill.ensures.places

pub returns-in-Err-clause-no_dataset : goal.returns-in-Err-clause-no_dataset
returns-in-Err-clause-no_dataset c =
    forgotten_again dataset_cmp _ _ _ c.args.datasets.now.places c.prepare.new.self.places c.forget.new.self.places c.args.dataset_key c.in_ok-prepare.ensures.items
    c.in_ok-prepare.ensures.places exact_dataset c.requires.dataset c.forget.ensures.items c.forget.ensures.places
