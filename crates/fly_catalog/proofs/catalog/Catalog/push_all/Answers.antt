use Rattle.std.proofs.Common.{sym}
use Rattle.fly_catalog.specs.Catalog.{IsIndexed}
use Rattle.fly_catalog.proofs.KeyLemmas.{exact_dataset, exact_item}
use Rattle.fly_catalog.proofs.CatalogLemmas.{indexed_grow, found_or_alike, absent_dataset, absent_artifact, absent_tag}
use Rattle.fly_catalog.proofs.catalog.Catalog.push_all.Goals as goal

pub invariant_of-self : goal.invariant_of-self
invariant_of-self c = indexed_grow _ _ c.in_err-keys.ensures.numbering c.in_err-keys.ensures.kept _ _ _ _ _ _ _ _ _ c.self.invariant

pub push_all-requires-clause-dataset : goal.push_all-requires-clause-dataset
push_all-requires-clause-dataset c =
    let grown = indexed_grow _ _ c.in_ok-keys.ensures.numbering c.in_ok-keys.ensures.kept _ _ _ _ _ _ _ _ _ c.self.invariant in
    absent_dataset _ _ _ _ _ _ _ _ _ _ grown c.args.dataset _ c.in_ok-keys.ensures.owner (rw (← c.self.view_is) at c.requires.dataset)

pub push_all-requires-clause-artifact : goal.push_all-requires-clause-artifact
push_all-requires-clause-artifact c =
    let grown = indexed_grow _ _ c.in_ok-keys.ensures.numbering c.in_ok-keys.ensures.kept _ _ _ _ _ _ _ _ _ c.self.invariant in
    absent_artifact _ _ _ _ _ _ _ _ _ _ grown c.args.artifact.dataset c.args.artifact.id _ c.in_ok-keys.ensures.first (rw (← c.self.view_is) at c.requires.artifact)

pub push_all-requires-clause-tag : goal.push_all-requires-clause-tag
push_all-requires-clause-tag c =
    let grown = indexed_grow _ _ c.in_ok-keys.ensures.numbering c.in_ok-keys.ensures.kept _ _ _ _ _ _ _ _ _ c.self.invariant in
    absent_tag _ _ _ _ _ _ _ _ _ _ grown c.args.tag.dataset c.args.tag.name _ c.in_ok-keys.ensures.second (rw (← c.self.view_is) at c.requires.tag)

pub invariant_of-self-2 : goal.invariant_of-self-2
invariant_of-self-2 c =
    let grown = indexed_grow _ _ c.in_ok-keys.ensures.numbering c.in_ok-keys.ensures.kept _ _ _ _ _ _ _ _ _ c.self.invariant in
    record {
      numbering = grown.numbering;
      datasets_found = found_or_alike exact_dataset c.self.inside.datasets.places c.push_all.new.datasets.places _ _ _ grown.datasets_found _ c.args.dataset c.in_ok-keys.ensures.owner
          (absent_dataset _ _ _ _ _ _ _ _ _ _ grown c.args.dataset _ c.in_ok-keys.ensures.owner (rw (← c.self.view_is) at c.requires.dataset))
          c.push_all.result c.push_all.ensures.dataset c.push_all.ensures.no_dataset;
      artifacts_found = found_or_alike exact_item c.self.inside.artifacts.places c.push_all.new.artifacts.places _ _ _ grown.artifacts_found _ c.args.artifact c.in_ok-keys.ensures.first
          (absent_artifact _ _ _ _ _ _ _ _ _ _ grown c.args.artifact.dataset c.args.artifact.id _ c.in_ok-keys.ensures.first (rw (← c.self.view_is) at c.requires.artifact))
          c.push_all.result c.push_all.ensures.artifact c.push_all.ensures.no_artifact;
      tags_found = found_or_alike exact_item c.self.inside.tags.places c.push_all.new.tags.places _ _ _ grown.tags_found _ c.args.tag c.in_ok-keys.ensures.second
          (absent_tag _ _ _ _ _ _ _ _ _ _ grown c.args.tag.dataset c.args.tag.name _ c.in_ok-keys.ensures.second (rw (← c.self.view_is) at c.requires.tag))
          c.push_all.result c.push_all.ensures.tag c.push_all.ensures.no_tag;
      reserved = grown.reserved;
    }
