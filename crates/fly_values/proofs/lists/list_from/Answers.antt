use Rattle.std.proofs.Common.{◌≡◌, map, ap, ◌∙◌}
use Rattle.std.proofs.lemmas.Grind.{common_steps}
use Rattle.std.proofs.Common.{arith}
use Rattle.serde_json.specs.View.{view}
use Rattle.fly_values.proofs.FieldLemmas.{each-item}
use Rattle.fly_values.proofs.lists.list_from.Goals as goal

pub returns : goal.returns
returns g c =
    let of = g.T.FromJson.of in
    let whole : c.loop-item.yielded ≡ c.items_of-items.result.items = grind (arith, common_steps) in
    c.from_vec.ensures.value ∙ c.loop-item.invariant.done ∙ ap (map (λ v. of (view v))) whole
    ∙ each-item of _ _ c.items_of-items.ensures
