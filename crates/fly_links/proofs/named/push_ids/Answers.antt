use Rattle.std.proofs.Common.{◌∷◌, [], ◌++◌, ap, ◌∙◌, arith}
use Rattle.std.specs.List.{flat_map}
use Rattle.std.proofs.lemmas.List.{take_all}
use Rattle.fly_types.specs.declared.text.Text.{Text}
use Rattle.fly_links.specs.Named.{places_named}
use Rattle.fly_links.proofs.LoopLemmas.{pushed_more}
use Rattle.fly_links.proofs.NamedLemmas.{named_ones}
use Rattle.fly_links.proofs.named.push_ids.Goals as goal

pub loop-id-preserved : goal.loop-id-preserved
loop-id-preserved c =
    pushed_more (λ (id : Text). places_named c.args.layout.now (id ∷ [])) _ _ c.id-item.result _ _ _ c.loop-id-test.true
    c.id-item.is c.loop-id.invariant c.in_ok-push_id.ensures

pub returns : goal.returns
returns c =
    let w = c.args.layout.now in
    c.loop-id.invariant
    ∙ ap (λ ids. c.args.places.now.items ++ flat_map (λ (id : Text). places_named w (id ∷ [])) ids) (take_all c.loop-id.id-index c.args.ids.now (omega arith))
    ∙ ap (λ r. c.args.places.now.items ++ r) (named_ones w c.args.ids.now)
