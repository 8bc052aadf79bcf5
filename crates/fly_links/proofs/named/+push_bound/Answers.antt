use Rattle.std.proofs.Common.{◌∙◌, ◌++◌, ap}
use Rattle.fly_docs.specs.declared.binding.Bound.{Bound}
use Rattle.fly_types.specs.declared.text.Text.{Text}
use Rattle.fly_links.specs.Named.{places_named, promised_ids}
use Rattle.fly_links.proofs.LayoutLemmas.{on_ok}
use Rattle.fly_links.proofs.LoopLemmas.{pushed_more}
use Rattle.fly_links.proofs.NamedLemmas.{named_collection, named_map}
use Rattle.fly_links.proofs.named.+push_bound.Goals as goal

pub push_elements-loop-element-preserved : goal.push_elements-loop-element-preserved
push_elements-loop-element-preserved t c =
    pushed_more (λ (x : Bound). places_named c.args.layout.now
    (promised_ids x)) _ _ c.element-item.result _ _ _ c.loop-element-test.true
    c.element-item.is c.loop-element.invariant c.in_ok-push_bound.ensures

pub push_entries-loop-value-preserved : goal.push_entries-loop-value-preserved
push_entries-loop-value-preserved t c =
    pushed_more (λ (entry : Text × Bound). places_named c.args.layout.now
    (promised_ids entry.1)) _ _ c.loop-value-item.result _ _ _ c.loop-value-test.true
    c.loop-value-item.is c.loop-value.invariant c.in_ok-push_bound.ensures

pub push_bound-returns-in-Collection : goal.push_bound-returns-in-Collection
push_bound-returns-in-Collection t c =
    on_ok c.push_elements.result
    (λ pushed. pushed ∙ ap (λ r. c.args.places.now.items ++ r)
    (named_collection c.args.layout.now _ _ _ c.in-Collection.is c.as_slice.ensures))
    c.push_elements.ensures

pub push_bound-returns-in-Map : goal.push_bound-returns-in-Map
push_bound-returns-in-Map t c =
    on_ok c.push_entries.result
    (λ pushed. pushed ∙ ap (λ r. c.args.places.now.items ++ r)
    (named_map c.args.layout.now _ _ _ c.in-Map.is c.as_slice-in-Map.ensures))
    c.push_entries.ensures
