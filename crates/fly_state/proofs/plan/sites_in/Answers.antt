use Rattle.std.proofs.Common.{◌≡◌, ◌∙◌, ap, map}
use Rattle.fly_docs.specs.declared.task.Task.{Task}
use Rattle.fly_state.specs.Tables.{key_id}
use Rattle.fly_state.proofs.KeyLemmas.{places_of_keys}
use Rattle.fly_state.proofs.plan.sites_in.Goals as goal

pub sites_of-requires : goal.sites_of-requires
sites_of-requires c = λ key.
    c.in_ok-places.ensures key
    ∙ places_of_keys c.deref.result.now c.args.c.now.tasks
    (ap (map key_id) c.deref.ensures.value ∙ c.in_ok-keys.ensures ∙ ap (map (λ (t : Task). t.id)) c.as_slice.ensures) key
