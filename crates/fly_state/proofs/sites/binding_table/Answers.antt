use Rattle.std.proofs.Common.{◌∙◌, ap, map}
use Rattle.fly_state.specs.Tables.{Loan}
use Rattle.fly_state.proofs.KeyLemmas.{places_of_names}
use Rattle.fly_state.proofs.Loops.{if_ok}
use Rattle.fly_state.proofs.sites.binding_table.Goals as goal

pub returns : goal.returns
returns c =
    if_ok c.first_places.result (λ places each key.
    each key
    ∙ places_of_names c.deref.result.now c.args.bindings.now (ap (map (λ (n : Loan). n.now)) c.deref.ensures.value ∙ c.in_ok-names.ensures) key)
    c.first_places.ensures
