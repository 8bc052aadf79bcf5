use Rattle.std.proofs.Common.{◌++◌, ap, ◌∙◌, arith}
use Rattle.std.specs.List.{flat_map}
use Rattle.std.proofs.lemmas.List.{take_all}
use Rattle.fly_docs.specs.declared.binding.Binding.{Binding}
use Rattle.fly_links.specs.Named.{places_named, promised_ids}
use Rattle.fly_links.proofs.LoopLemmas.{pushed_more}
use Rattle.fly_links.proofs.NamedLemmas.{named_inputs}
use Rattle.fly_links.proofs.named.push_inputs.Goals as goal

pub loop-input-preserved : goal.loop-input-preserved
loop-input-preserved c =
    pushed_more (λ (x : Binding). places_named c.args.layout.now (promised_ids x.bound)) _ _ c.input-item.result _ _ _ c.loop-input-test.true
    c.input-item.is c.loop-input.invariant c.in_ok-push_bound.ensures

pub returns : goal.returns
returns c =
    let w = c.args.layout.now in
    c.loop-input.invariant
    ∙ ap (λ xs. c.args.places.now.items ++ flat_map (λ (x : Binding). places_named w (promised_ids x.bound)) xs)
    (take_all c.loop-input.input-index c.args.inputs.now (omega arith))
    ∙ ap (λ r. c.args.places.now.items ++ r) (named_inputs w c.args.inputs.now)
