use Rattle.fly_catalog.specs.Catalog.{item_cmp}
use Rattle.fly_catalog.proofs.KeyLemmas.{exact_item}
use Rattle.fly_catalog.proofs.TableLemmas.{filled, forgotten_again}
use Rattle.fly_catalog.proofs.table.push_item.Goals as goal

pub returns-in-Ok-clause-artifact : goal.returns-in-Ok-clause-artifact
returns-in-Ok-clause-artifact c =
    filled item_cmp _ _ _ c.args.artifacts.now.places c.prepare.new.self.places c.fill.new.self.places c.args.artifact_key c.in_ok-prepare.ensures.items
    c.in_ok-prepare.ensures.places c.args.artifact c.fill.ensures.items c.fill.ensures.places

pub returns-in-Err-clause-no_artifact : goal.returns-in-Err-clause-no_artifact
returns-in-Err-clause-no_artifact c =
    forgotten_again item_cmp _ _ _ c.args.artifacts.now.places c.prepare.new.self.places c.forget.new.self.places c.args.artifact_key c.in_ok-prepare.ensures.items
    c.in_ok-prepare.ensures.places exact_item c.requires.artifact c.forget.ensures.items c.forget.ensures.places
