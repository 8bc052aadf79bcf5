use Rattle.std.proofs.Common.{◌≡◌, sym, ◌∙◌}
use Rattle.std.specs.Prelude.{None}
use Rattle.std.specs.BTreeMap.{get}
use Rattle.fly_catalog.specs.Names.{item_key}
use Rattle.fly_catalog.specs.Catalog.{item_cmp, artifact_key, IsIndexed}
use Rattle.fly_catalog.proofs.KeyLemmas.{exact_item}
use Rattle.fly_catalog.proofs.CatalogLemmas.{indexed_grow, artifact_answer, absent_place, found_after_try}
use Rattle.fly_catalog.proofs.catalog.Catalog.push_artifact.Goals as goal

pub invariant_of-self : goal.invariant_of-self
invariant_of-self c =
    indexed_grow _ _ c.in_err-key.ensures.numbering c.in_err-key.ensures.kept _ _ _ _ _ _ _ _ _ c.self.invariant

pub push-requires : goal.push-requires
push-requires c =
    let grown = indexed_grow _ _ c.in_ok-key.ensures.numbering c.in_ok-key.ensures.kept _ _ _ _ _ _ _ _ _ c.self.invariant in
    let answer = artifact_answer _ grown.numbering c.self.inside.artifacts.places _ grown.artifacts_found c.args.artifact.dataset c.args.artifact.id _ (sym c.in_ok-key.ensures.key) in
    absent_place item_cmp c.self.inside.artifacts.places _ _ grown.artifacts_found _ (sym answer ∙ rw (← c.self.view_is) at c.requires)

pub invariant_of-self-2 : goal.invariant_of-self-2
invariant_of-self-2 c =
    let grown = indexed_grow _ _ c.in_ok-key.ensures.numbering c.in_ok-key.ensures.kept _ _ _ _ _ _ _ _ _ c.self.invariant in
    let answer = artifact_answer _ grown.numbering c.self.inside.artifacts.places _ grown.artifacts_found c.args.artifact.dataset c.args.artifact.id _ (sym c.in_ok-key.ensures.key) in
    let absent = absent_place item_cmp c.self.inside.artifacts.places _ _ grown.artifacts_found _ (sym answer ∙ rw (← c.self.view_is) at c.requires) in
    record {
      numbering = grown.numbering;
      datasets_found = grown.datasets_found;
      tags_found = grown.tags_found;
      reserved = grown.reserved;
      artifacts_found =
          found_after_try exact_item c.self.inside.artifacts.places c.push.new.self.places _ _ _ grown.artifacts_found _ c.args.artifact c.in_ok-key.ensures.key absent
          c.push.result c.push.ensures.added c.push.ensures.kept;
    }
