use Rattle.std.proofs.Common.{◌≡◌, sym, ◌∙◌}
use Rattle.std.specs.Prelude.{None}
use Rattle.std.specs.BTreeMap.{get}
use Rattle.fly_catalog.specs.Names.{dataset_key}
use Rattle.fly_catalog.specs.Catalog.{dataset_cmp, IsIndexed}
use Rattle.fly_catalog.proofs.KeyLemmas.{exact_dataset}
use Rattle.fly_catalog.proofs.CatalogLemmas.{indexed_grow, dataset_answer, absent_place, found_after_try, none_from_test}
use Rattle.fly_catalog.proofs.catalog.Catalog.push_dataset.Goals as goal

pub invariant_of-self : goal.invariant_of-self
invariant_of-self c =
    indexed_grow _ _ c.in_err-key.ensures.numbering c.in_err-key.ensures.kept _ _ _ _ _ _ _ _ _ c.self.invariant

pub push-requires : goal.push-requires
push-requires c =
    let grown = indexed_grow _ _ c.in_ok-key.ensures.numbering c.in_ok-key.ensures.kept _ _ _ _ _ _ _ _ _ c.self.invariant in
    let answer = dataset_answer _ grown.numbering c.self.inside.datasets.places _ grown.datasets_found c.args.d _ (sym c.in_ok-key.ensures.key) in
    absent_place dataset_cmp c.self.inside.datasets.places _ _ grown.datasets_found _ (sym answer ∙ none_from_test _ (rw (← c.self.view_is) at c.requires))

pub invariant_of-self-2 : goal.invariant_of-self-2
invariant_of-self-2 c =
    let grown = indexed_grow _ _ c.in_ok-key.ensures.numbering c.in_ok-key.ensures.kept _ _ _ _ _ _ _ _ _ c.self.invariant in
    let answer = dataset_answer _ grown.numbering c.self.inside.datasets.places _ grown.datasets_found c.args.d _ (sym c.in_ok-key.ensures.key) in
    let absent = absent_place dataset_cmp c.self.inside.datasets.places _ _ grown.datasets_found _ (sym answer ∙ none_from_test _ (rw (← c.self.view_is) at c.requires)) in
    record {
      numbering = grown.numbering;
      artifacts_found = grown.artifacts_found;
      tags_found = grown.tags_found;
      reserved = grown.reserved;
      datasets_found =
          found_after_try exact_dataset c.self.inside.datasets.places c.push.new.self.places _ _ _ grown.datasets_found _ c.args.d c.in_ok-key.ensures.key absent
          c.push.result c.push.ensures.added c.push.ensures.kept;
    }
