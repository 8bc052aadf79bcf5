use Rattle.std.proofs.Common.{sym, ◌∙◌, ap}
use Rattle.std.specs.Prelude.{is_some}
use Rattle.fly_catalog.proofs.CatalogLemmas.{dataset_answer, is_some-copied}
use Rattle.fly_catalog.proofs.catalog.Catalog.has_dataset.Goals as goal

pub returns-in-Some : goal.returns-in-Some
returns-in-Some c =
    let answer = dataset_answer _ c.self.invariant.numbering c.self.inside.datasets.places _ c.self.invariant.datasets_found _ _ c.in-Some.ensures in
    rw (← c.self.view_is) (c.is_some.ensures ∙ is_some-copied _ _ (c.get.ensures ∙ sym answer))

pub returns-in-None : goal.returns-in-None
returns-in-None c =
    let answer = dataset_answer _ c.self.invariant.numbering c.self.inside.datasets.places _ c.self.invariant.datasets_found _ _ c.in-None.ensures in
    rw (← c.self.view_is) (sym (ap is_some answer))
