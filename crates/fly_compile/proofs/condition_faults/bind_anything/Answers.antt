use Rattle.std.proofs.Common.{sym, ◌∙◌, ap}
use Rattle.std.specs.List.{list_any}
use Rattle.fly_docs.specs.declared.binding.Binding.{Binding}
use Rattle.fly_docs.specs.Bindings.{promises_of}
use Rattle.fly_faults.specs.BindingFaults.{is_anything}
use Rattle.fly_compile.specs.Promises.{known}
use Rattle.fly_compile.specs.Scopes.{source_there}
use Rattle.fly_faults.proofs.Loops.{any_at, none_more, any-through}
use Rattle.fly_compile.proofs.condition_faults.bind_anything.Goals as goal

pub returns-then-has_anything : goal.returns-then-has_anything
returns-then-has_anything c =
    let source = source_there c.args.sources.now in
    sym (any_at (λ (x : Binding). list_any (λ promise. is_anything (source promise)) (promises_of x.bound)) _ _ c.x-item.result c.loop-x-test.true c.x-item.is
    (sym (any-through known (λ promise. (promise, source promise)) (λ k. is_anything k.1) c.in_ok-promises.promises.items (promises_of c.x-item.result.bound) c.in_ok-promises.ensures)
    ∙ sym (ap (list_any (λ promise. is_anything (known promise).1)) c.deref.ensures.value) ∙ sym c.has_anything.ensures ∙ c.if-has_anything.true))

pub loop-x-preserved : goal.loop-x-preserved
loop-x-preserved c =
    let source = source_there c.args.sources.now in
    none_more (λ (x : Binding). list_any (λ promise. is_anything (source promise)) (promises_of x.bound)) _ _ c.x-item.result c.loop-x-test.true c.x-item.is
    c.loop-x.invariant
    (sym (any-through known (λ promise. (promise, source promise)) (λ k. is_anything k.1) c.in_ok-promises.promises.items (promises_of c.x-item.result.bound) c.in_ok-promises.ensures)
    ∙ sym (ap (list_any (λ promise. is_anything (known promise).1)) c.deref.ensures.value) ∙ sym c.has_anything.ensures ∙ c.if-has_anything.false)
