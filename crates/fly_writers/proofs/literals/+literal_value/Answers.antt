use Rattle.std.proofs.Common.{[], ◌∷◌, map, codes, sym, ap, ◌∙◌}
use Rattle.std.proofs.lemmas.Result.{IfOk-weaker}
use Rattle.fly_writers.specs.Json.{message, message_of, optional_list, optional_map}
use Rattle.fly_writers.specs.Literals.{literal_json, literal_entry}
use Rattle.fly_writers.proofs.Layers.{literal_json-Collection, literal_json-Map, literal_json-scalar}
use Rattle.fly_writers.proofs.literals.+literal_value.Goals as goal

pub literal_value-returns-in_ok-collection-in-Collection : goal.literal_value-returns-in_ok-collection-in-Collection
literal_value-returns-in_ok-collection-in-Collection t c =
    let elements = c.in_ok-elements-in-Collection.ensures ∙ ap (λ s. optional_list (map literal_json s)) c.as_slice.ensures in
    let collection = c.in_ok-collection-in-Collection.ensures ∙ ap (λ o. message ((codes "literals", o) ∷ [])) elements in
    IfOk-weaker c.message_of.result _ _ (λ j e. e ∙ ap (λ d. message_of (codes "collection") d) collection
    ∙ sym (literal_json-Collection c.in-Collection.elements) ∙ ap literal_json (sym c.in-Collection.is)) c.message_of.ensures

pub literal_value-returns-in_ok-map-in-Map : goal.literal_value-returns-in_ok-map-in-Map
literal_value-returns-in_ok-map-in-Map t c =
    let entries = c.in_ok-entries-in-Map.ensures ∙ ap (λ s. optional_map (map literal_entry s)) c.as_slice-in-Map.ensures in
    let whole = c.in_ok-map-in-Map.ensures ∙ ap (λ o. message ((codes "literals", o) ∷ [])) entries in
    IfOk-weaker c.message_of-in-Map.result _ _ (λ j e. e ∙ ap (λ d. message_of (codes "map") d) whole
    ∙ sym (literal_json-Map c.in-Map.entries) ∙ ap literal_json (sym c.in-Map.is)) c.message_of-in-Map.ensures

pub literal_value-returns-in_ok-scalar_value-in_default : goal.literal_value-returns-in_ok-scalar_value-in_default
literal_value-returns-in_ok-scalar_value-in_default t c =
    IfOk-weaker c.message_of-in_default.result _ _ (λ j e. e ∙ ap (λ d. message_of (codes "scalar") d) c.in_ok-scalar_value-in_default.ensures
    ∙ sym (literal_json-scalar c.args.literal.now c.in_default.not-Collection c.in_default.not-Map)) c.message_of-in_default.ensures
