use Rattle.std.proofs.Common.{sym}
use Rattle.fly_catalog.specs.Catalog.{IsIndexed}
use Rattle.fly_catalog.proofs.KeyLemmas.{exact_item}
use Rattle.fly_catalog.proofs.CatalogLemmas.{indexed_grow, found_or_alike, absent_artifact, absent_tag}
use Rattle.fly_catalog.proofs.catalog.Catalog.push_item.Goals as goal

pub invariant_of-self : goal.invariant_of-self
invariant_of-self c = indexed_grow _ _ c.in_err-keys.ensures.numbering c.in_err-keys.ensures.kept _ _ _ _ _ _ _ _ _ c.self.invariant

pub push_item-requires-clause-artifact : goal.push_item-requires-clause-artifact
push_item-requires-clause-artifact c =
    let grown = indexed_grow _ _ c.in_ok-keys.ensures.numbering c.in_ok-keys.ensures.kept _ _ _ _ _ _ _ _ _ c.self.invariant in
    absent_artifact _ _ _ _ _ _ _ _ _ _ grown c.args.artifact.dataset c.args.artifact.id _ c.in_ok-keys.ensures.first (rw (← c.self.view_is) at c.requires.artifact)

pub push_item-requires-clause-tag : goal.push_item-requires-clause-tag
push_item-requires-clause-tag c =
    let grown = indexed_grow _ _ c.in_ok-keys.ensures.numbering c.in_ok-keys.ensures.kept _ _ _ _ _ _ _ _ _ c.self.invariant in
    absent_tag _ _ _ _ _ _ _ _ _ _ grown c.args.tag.dataset c.args.tag.name _ c.in_ok-keys.ensures.second (rw (← c.self.view_is) at c.requires.tag)

pub invariant_of-self-2 : goal.invariant_of-self-2
invariant_of-self-2 c =
    let grown = indexed_grow _ _ c.in_ok-keys.ensures.numbering c.in_ok-keys.ensures.kept _ _ _ _ _ _ _ _ _ c.self.invariant in
    record {
      numbering = grown.numbering;
      datasets_found = grown.datasets_found;
      artifacts_found = found_or_alike exact_item c.self.inside.artifacts.places c.push_item.new.artifacts.places _ _ _ grown.artifacts_found _ c.args.artifact c.in_ok-keys.ensures.first
          (absent_artifact _ _ _ _ _ _ _ _ _ _ grown c.args.artifact.dataset c.args.artifact.id _ c.in_ok-keys.ensures.first (rw (← c.self.view_is) at c.requires.artifact))
          c.push_item.result c.push_item.ensures.artifact c.push_item.ensures.no_artifact;
      tags_found = found_or_alike exact_item c.self.inside.tags.places c.push_item.new.tags.places _ _ _ grown.tags_found _ c.args.tag c.in_ok-keys.ensures.second
          (absent_tag _ _ _ _ _ _ _ _ _ _ grown c.args.tag.dataset c.args.tag.name _ c.in_ok-keys.ensures.second (rw (← c.self.view_is) at c.requires.tag))
          c.push_item.result c.push_item.ensures.tag c.push_item.ensures.no_tag;
      reserved = grown.reserved;
    }
