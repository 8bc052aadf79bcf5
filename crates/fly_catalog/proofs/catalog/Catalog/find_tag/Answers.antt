use Rattle.std.proofs.Common.{sym, ◌∙◌}
use Rattle.fly_catalog.proofs.CatalogLemmas.{tag_answer}
use Rattle.fly_catalog.proofs.catalog.Catalog.find_tag.Goals as goal

pub returns-in-Some : goal.returns-in-Some
returns-in-Some c =
    rw (← c.self.view_is) (c.get.ensures ∙ sym (tag_answer _ c.self.invariant.numbering c.self.inside.tags.places _ c.self.invariant.tags_found _ _ _ c.in-Some.ensures))

pub returns-in-None : goal.returns-in-None
returns-in-None c =
    rw (← c.self.view_is) (sym (tag_answer _ c.self.invariant.numbering c.self.inside.tags.places _ c.self.invariant.tags_found _ _ _ c.in-None.ensures))
