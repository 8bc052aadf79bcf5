use Rattle.std.proofs.Common.{[], ◌∷◌, map, codes, sym, ap, ◌∙◌}
use Rattle.std.proofs.lemmas.Result.{IfOk-weaker}
use Rattle.fly_writers.specs.Json.{message, message_of, optional_list, optional_map}
use Rattle.fly_writers.specs.Bindings.{bound_json, bound_entry}
use Rattle.fly_writers.proofs.Layers.{bound_json-Collection, bound_json-Map}
use Rattle.fly_writers.proofs.bindings.+bound_value.Goals as goal

pub bound_value-returns-in_ok-collection-in-Collection : goal.bound_value-returns-in_ok-collection-in-Collection
bound_value-returns-in_ok-collection-in-Collection t c =
    let elements = c.in_ok-elements-in-Collection.ensures ∙ ap (λ s. optional_list (map bound_json s)) c.as_slice.ensures in
    let collection = c.in_ok-collection-in-Collection.ensures ∙ ap (λ o. message ((codes "bindings", o) ∷ [])) elements in
    IfOk-weaker c.message_of-in-Collection.result _ _ (λ j e. e ∙ ap (λ d. message_of (codes "collection") d) collection
    ∙ sym (bound_json-Collection c.in-Collection.elements) ∙ ap bound_json (sym c.in-Collection.is)) c.message_of-in-Collection.ensures

pub bound_value-returns-in_ok-map-in-Map : goal.bound_value-returns-in_ok-map-in-Map
bound_value-returns-in_ok-map-in-Map t c =
    let entries = c.in_ok-entries-in-Map.ensures ∙ ap (λ s. optional_map (map bound_entry s)) c.as_slice-in-Map.ensures in
    let whole = c.in_ok-map-in-Map.ensures ∙ ap (λ o. message ((codes "bindings", o) ∷ [])) entries in
    IfOk-weaker c.message_of-in-Map.result _ _ (λ j e. e ∙ ap (λ d. message_of (codes "map") d) whole
    ∙ sym (bound_json-Map c.in-Map.entries) ∙ ap bound_json (sym c.in-Map.is)) c.message_of-in-Map.ensures
