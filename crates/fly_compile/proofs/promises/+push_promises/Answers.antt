use Rattle.std.proofs.Common.{◌∙◌, ◌++◌, ap, map}
use Rattle.fly_docs.specs.Bindings.{promises_of}
use Rattle.fly_compile.specs.Scopes.{source_there}
use Rattle.fly_compile.specs.Promises.{known, with_sources}
use Rattle.fly_compile.proofs.PromiseLists.{promises-collection, promises-map}
use Rattle.fly_faults.proofs.Loops.{pushed_more, on_ok}
use Rattle.fly_compile.proofs.promises.+push_promises.Goals as goal

pub push_elements-loop-element-preserved : goal.push_elements-loop-element-preserved
push_elements-loop-element-preserved t c =
    pushed_more (λ e. with_sources (source_there c.args.sources.now) (promises_of e)) _ _ c.element-item.result _ _ _ c.loop-element-test.true
    c.element-item.is c.loop-element.invariant c.in_ok-push_promises.ensures

pub push_entries-loop-value-preserved : goal.push_entries-loop-value-preserved
push_entries-loop-value-preserved t c =
    pushed_more (λ e. with_sources (source_there c.args.sources.now) (promises_of e.1)) _ _ c.loop-value-item.result _ _ _ c.loop-value-test.true
    c.loop-value-item.is c.loop-value.invariant c.in_ok-push_promises.ensures

pub push_promises-returns-in-Collection : goal.push_promises-returns-in-Collection
push_promises-returns-in-Collection t c =
    on_ok c.push_elements.result
    (λ pushed. pushed ∙ ap (λ r. map known c.args.promises.now.items ++ r)
    (promises-collection (source_there c.args.sources.now) _ _ _ c.in-Collection.is c.as_slice.ensures))
    c.push_elements.ensures

pub push_promises-returns-in-Map : goal.push_promises-returns-in-Map
push_promises-returns-in-Map t c =
    on_ok c.push_entries.result
    (λ pushed. pushed ∙ ap (λ r. map known c.args.promises.now.items ++ r)
    (promises-map (source_there c.args.sources.now) _ _ _ c.in-Map.is c.as_slice-in-Map.ensures))
    c.push_entries.ensures
