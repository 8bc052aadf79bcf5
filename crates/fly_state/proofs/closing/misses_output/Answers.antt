use Rattle.std.proofs.Common.{◌∙◌, ap, sym}
use Rattle.std.specs.List.{list_any}
use Rattle.std.proofs.lemmas.List.{take_all}
use Rattle.std.proofs.lemmas.List.Folds.{list_any_at}
use Rattle.fly_docs.specs.declared.binding.Binding.{Binding}
use Rattle.fly_state.specs.Closing.{skips_one}
use Rattle.fly_state.specs.Looks.{promised_ids}
use Rattle.fly_state.proofs.Founds.{any-flat_map}
use Rattle.fly_state.proofs.closing.misses_output.Goals as goal

pub returns-then-promises_skipped : goal.returns-then-promises_skipped
returns-then-promises_skipped c =
    let skips = λ (x : Binding). skips_one c.args.plan.now c.args.state.now (promised_ids x.bound) in
    sym (any-flat_map _ (λ (x : Binding). promised_ids x.bound) c.args.outputs.now
    ∙ list_any_at skips c.args.outputs.now c.loop-binding.binding-index c.binding-item.result c.loop-binding-test.true
    (ap skips (sym c.binding-item.is) ∙ sym c.promises_skipped.ensures ∙ c.if-promises_skipped.true))

pub returns : goal.returns
returns c =
    let skips = λ (x : Binding). skips_one c.args.plan.now c.args.state.now (promised_ids x.bound) in
    sym (any-flat_map _ (λ (x : Binding). promised_ids x.bound) c.args.outputs.now
    ∙ ap (list_any skips) (sym (take_all c.loop-binding.binding-index c.args.outputs.now c.loop-binding-test.false))
    ∙ c.loop-binding.invariant)
