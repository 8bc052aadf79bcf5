use Rattle.std.proofs.Common.{◌≡◌, sym, ◌∙◌}
use Rattle.std.specs.Prelude.{None}
use Rattle.std.specs.BTreeMap.{get}
use Rattle.fly_catalog.specs.Names.{item_key}
use Rattle.fly_catalog.specs.Catalog.{item_cmp, tag_key, IsIndexed}
use Rattle.fly_catalog.proofs.KeyLemmas.{exact_item}
use Rattle.fly_catalog.proofs.CatalogLemmas.{indexed_grow, tag_answer, absent_place, found_after_try}
use Rattle.fly_catalog.proofs.catalog.Catalog.push_tag.Goals as goal

pub invariant_of-self : goal.invariant_of-self
invariant_of-self c =
    indexed_grow _ _ c.in_err-key.ensures.numbering c.in_err-key.ensures.kept _ _ _ _ _ _ _ _ _ c.self.invariant

pub push-requires : goal.push-requires
push-requires c =
    let grown = indexed_grow _ _ c.in_ok-key.ensures.numbering c.in_ok-key.ensures.kept _ _ _ _ _ _ _ _ _ c.self.invariant in
    let answer = tag_answer _ grown.numbering c.self.inside.tags.places _ grown.tags_found c.args.tag.dataset c.args.tag.name _ (sym c.in_ok-key.ensures.key) in
    absent_place item_cmp c.self.inside.tags.places _ _ grown.tags_found _ (sym answer ∙ rw (← c.self.view_is) at c.requires)

pub invariant_of-self-2 : goal.invariant_of-self-2
invariant_of-self-2 c =
    let grown = indexed_grow _ _ c.in_ok-key.ensures.numbering c.in_ok-key.ensures.kept _ _ _ _ _ _ _ _ _ c.self.invariant in
    let answer = tag_answer _ grown.numbering c.self.inside.tags.places _ grown.tags_found c.args.tag.dataset c.args.tag.name _ (sym c.in_ok-key.ensures.key) in
    let absent = absent_place item_cmp c.self.inside.tags.places _ _ grown.tags_found _ (sym answer ∙ rw (← c.self.view_is) at c.requires) in
    record {
      numbering = grown.numbering;
      datasets_found = grown.datasets_found;
      artifacts_found = grown.artifacts_found;
      reserved = grown.reserved;
      tags_found =
          found_after_try exact_item c.self.inside.tags.places c.push.new.self.places _ _ _ grown.tags_found _ c.args.tag c.in_ok-key.ensures.key absent
          c.push.result c.push.ensures.added c.push.ensures.kept;
    }
