use Rattle.std.proofs.Common.{◌∙◌}
use Rattle.fly_world.specs.Store.{world_of}
use Rattle.fly_world.specs.World.{World}
use Rattle.fly_world.proofs.OwnerLemmas.{count_told}
use Rattle.fly_world.proofs.store.Store.ended_count.Goals as goal

pub returns : goal.returns
returns c =
    let f = c.self.inside in
    let w : World = world_of f.executions.items f.attempts f.catalog f.moment f.entries.items in
    let names = rw (← c.self.view_is) at c.requires.of_plan.names in
    rw (← c.self.view_is)
    (c.ended_count.ensures
    ∙ count_told f.plan.now c.primary-task_nodes.result.now c.primary-task_nodes.ensures w names f.catalog f.owners
    c.self.invariant.owned)
