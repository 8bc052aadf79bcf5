use Rattle.std.proofs.Common.{[], ◌∷◌, map, codes, sym, ap, ◌∙◌}
use Rattle.std.proofs.lemmas.Result.{IfOk-weaker}
use Rattle.fly_writers.specs.Json.{message, message_of, optional_list}
use Rattle.fly_writers.specs.Types.{type_json}
use Rattle.fly_writers.proofs.Layers.{type_json-Union}
use Rattle.fly_writers.proofs.types.+type_value.Goals as goal

pub type_value-returns-in_ok-kind-in-Union : goal.type_value-returns-in_ok-kind-in-Union
type_value-returns-in_ok-kind-in-Union t c =
    let variants = c.in_ok-variants-in-Union.ensures ∙ ap (λ s. optional_list (map type_json s)) c.as_slice-in-Union.ensures in
    let kind = c.in_ok-kind-in-Union.ensures ∙ ap (λ o. message ((codes "variants", o) ∷ [])) variants in
    IfOk-weaker c.message_of-in-Union.result _ _ (λ j e. e ∙ ap (λ d. message_of (codes "unionType") d) kind
    ∙ sym (type_json-Union c.in-Union.variants) ∙ ap type_json (sym c.in-Union.is)) c.message_of-in-Union.ensures
