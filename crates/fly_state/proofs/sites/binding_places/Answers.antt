use Rattle.std.proofs.Common.{◌≡◌, List, map, flat_map, length, Some, None, option_and_then, option_to_list, sym, ◌∙◌, ap, append-nil}
use Rattle.std.specs.List.{slice_get}
use Rattle.std.specs.Option.{option_copied}
use Rattle.fly_docs.specs.declared.task.Task.{Task}
use Rattle.fly_state.specs.Sites.{binding_place, binding_places}
use Rattle.fly_state.proofs.Loops.{if_ok}
use Rattle.fly_state.proofs.sites.binding_places.Goals as goal

pub returns-in-Some-get : goal.returns-in-Some-get
returns-in-Some-get c =
    let there = sym c.get.ensures ∙ ap option_copied c.in-Some-get.is in
    let bindings = c.args.bindings.now in
    if_ok c.places_of_variables.result (λ places is.
    is ∙ ap (map (binding_place bindings)) c.as_slice.ensures
    ∙ sym (append-nil (map (binding_place bindings) c.in-Some-get.task.now.interface.inputs))
    ∙ sym (ap (λ o. binding_places c.args.tasks.now o bindings) c.in-Some.is
    ∙ ap (λ o. flat_map (λ (t : Task). map (binding_place bindings) t.interface.inputs) (option_to_list o)) there))
    c.places_of_variables.ensures

pub returns-in-None : goal.returns-in-None
returns-in-None c =
    let there = sym c.get.ensures ∙ ap option_copied c.in-None.is in
    let bindings = c.args.bindings.now in
    c.new-in-None.ensures.items
    ∙ sym (ap (λ o. binding_places c.args.tasks.now o bindings) c.in-Some.is
    ∙ ap (λ o. flat_map (λ (t : Task). map (binding_place bindings) t.interface.inputs) (option_to_list o)) there)
