use Rattle.std.proofs.Common.{◌∙◌, ◌++◌, ap}
use Rattle.std.specs.BTreeMap.{get}
use Rattle.std.specs.Ordering.{nat_cmp}
use Rattle.std.specs.Cmp.Lexicographic.{slice_cmp}
use Rattle.fly_state.specs.Looks.{places_among, promised_ids}
use Rattle.fly_state.proofs.LookLemmas.{among-collection, among-map}
use Rattle.fly_state.proofs.Loops.{pushed_more, on_ok}
use Rattle.fly_state.proofs.looks.+push_promised.Goals as goal

pub push_elements-loop-element-preserved : goal.push_elements-loop-element-preserved
push_elements-loop-element-preserved t c =
    pushed_more (λ e. places_among (get (slice_cmp nat_cmp) c.args.numbers.now) (promised_ids e)) _ _ c.element-item.result _ _ _
    c.loop-element-test.true c.element-item.is c.loop-element.invariant c.in_ok-push_promised.ensures

pub push_entries-loop-value-preserved : goal.push_entries-loop-value-preserved
push_entries-loop-value-preserved t c =
    pushed_more (λ e. places_among (get (slice_cmp nat_cmp) c.args.numbers.now) (promised_ids e.1)) _ _ c.loop-value-item.result _ _ _
    c.loop-value-test.true c.loop-value-item.is c.loop-value.invariant c.in_ok-push_promised.ensures

pub push_promised-returns-in-Collection : goal.push_promised-returns-in-Collection
push_promised-returns-in-Collection t c =
    on_ok c.push_elements.result
    (λ pushed. pushed ∙ ap (λ r. c.args.looks.now.items ++ r)
    (among-collection (get (slice_cmp nat_cmp) c.args.numbers.now) _ _ _ c.in-Collection.is c.as_slice.ensures))
    c.push_elements.ensures

pub push_promised-returns-in-Map : goal.push_promised-returns-in-Map
push_promised-returns-in-Map t c =
    on_ok c.push_entries.result
    (λ pushed. pushed ∙ ap (λ r. c.args.looks.now.items ++ r)
    (among-map (get (slice_cmp nat_cmp) c.args.numbers.now) _ _ _ c.in-Map.is c.as_slice-in-Map.ensures))
    c.push_entries.ensures
