use Rattle.std.proofs.Common.{ap}
use Rattle.fly_catalog.specs.Catalog.{CatalogLists}
use Rattle.fly_world.specs.Store.{StoreLists, world_of, has_ended_owner}
use Rattle.fly_world.specs.World.{World}
use Rattle.fly_world.proofs.OwnerLemmas.{sweep_told, owned_swept}
use Rattle.fly_world.proofs.store.Store.sweep.Goals as goal

pub invariant_of-self : goal.invariant_of-self
invariant_of-self c =
    let f = c.self.inside in
    let old = c.self.invariant in
    rw (c.sweep.ensures.after) record {
      numbered_by = old.numbered_by;
      owned = owned_swept f.plan.now f.executions.items f.catalog f.owners
          (has_ended_owner f.owners f.executions.items) old.owned;
      artifacts = record { ids = old.artifacts.ids; tags = old.artifacts.tags; as_many = old.artifacts.as_many };
      opening_is = old.opening_is;
      few = old.few;
      early = old.early;
      room = old.room;
    }

pub returns : goal.returns
returns c =
    let f = c.self.inside in
    let w : World = world_of f.executions.items f.attempts f.catalog f.moment f.entries.items in
    let names = rw (← c.self.view_is) at c.requires.of_plan.names in
    let left : CatalogLists → StoreLists = λ catalog. record {
      plan = f.plan.now;
      world = record w { catalog = catalog };
      spare = f.spare;
    } in
    rw (c.sweep.ensures.after, ← c.self.view_is)
    (ap left
    (sweep_told f.plan.now c.primary-task_nodes.result.now c.primary-task_nodes.ensures w names f.catalog f.owners
    c.self.invariant.owned))
