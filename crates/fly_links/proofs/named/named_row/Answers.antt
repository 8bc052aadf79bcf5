use Rattle.std.proofs.Common.{◌≡◌, [], ◌++◌, sym, ap, ◌∙◌, rules}
use Rattle.fly_docs.specs.Bindings.{sources_of}
use Rattle.fly_links.specs.Named.{places_named}
use Rattle.fly_links.proofs.NamedLemmas.{named_append}
use Rattle.fly_links.proofs.named.named_row.Goals as goal

pub returns : goal.returns
returns c =
    let w = c.args.layout.now in
    let n = c.args.node.now in
    let none : c.new-places.result.items ≡ [] = search rules in
    let mid = c.push_inputs.new.places.items in
    c.from_vec.ensures.value
    ∙ c.in_ok-push_ids.ensures
    ∙ ap (λ ids. mid ++ places_named w ids) c.as_slice-2.ensures
    ∙ ap (λ r. r ++ places_named w n.upstream)
    (c.in_ok-push_inputs.ensures
    ∙ ap (λ xs. c.new-places.result.items ++ places_named w (sources_of xs)) c.as_slice.ensures
    ∙ ap (λ r. r ++ places_named w (sources_of n.inputs)) none)
    ∙ sym (named_append w (sources_of n.inputs) n.upstream)
