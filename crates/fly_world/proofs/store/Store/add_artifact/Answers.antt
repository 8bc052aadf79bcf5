use Rattle.std.proofs.Common.{List, sym, subst}
use Rattle.fly_catalog.specs.declared.parts.Reservation.{Reservation}
use Rattle.fly_world.specs.Store.{HasOwners}
use Rattle.fly_world.proofs.NumberedCatalogs.{stored_told, numbered_stored, reserved_stored}
use Rattle.fly_world.proofs.store.Store.add_artifact.Goals as goal

pub invariant_of-self : goal.invariant_of-self
invariant_of-self c =
    let f = c.self.inside in
    let old = c.self.invariant in
    let free = rw (← c.self.view_is) at c.requires in
    let told = rw c.in-Ok.is at (stored_told f.catalog old.artifacts c.args.dataset c.in_ok-id.id c.args.tag
    c.args.content c.store.new.self c.store.result c.artifact_count.result c.artifact_count.type_inv
    c.artifact_count.ensures c.in_ok-id.ensures free c.store.ensures) in
    rw told record {
      numbered_by = old.numbered_by;
      owned = subst (λ (rs : List Reservation). HasOwners f.plan.now f.executions.items rs f.owners)
          (sym (reserved_stored f.catalog c.args.dataset c.args.tag c.args.content)) old.owned;
      artifacts = numbered_stored f.catalog c.args.dataset c.args.tag c.args.content old.artifacts;
      opening_is = old.opening_is;
      few = old.few;
      early = old.early;
      room = old.room;
    }

pub memory_wanted-requires : goal.memory_wanted-requires
memory_wanted-requires c =
    let free = rw (← c.self.view_is) at c.requires in
    let told = rw c.in-Err.is at (stored_told c.self.inside.catalog c.self.invariant.artifacts c.args.dataset
    c.in_ok-id.id c.args.tag c.args.content c.store.new.self c.store.result c.artifact_count.result
    c.artifact_count.type_inv c.artifact_count.ensures c.in_ok-id.ensures free c.store.ensures) in
    told.0
