use Rattle.std.proofs.Common.{sym, ◌∙◌, ap}
use Rattle.std.specs.Option.{option_and_then}
use Rattle.fly_state.specs.Plans.{node_numbered}
use Rattle.fly_world.specs.Spots.{cached_task, spot_of}
use Rattle.fly_world.specs.Store.{spot_at}
use Rattle.fly_world.proofs.FoundSpots.{found_alike, node_of-spot}
use Rattle.fly_world.proofs.cache.cached_node.Goals as goal

pub returns-in-Some-cached_task : goal.returns-in-Some-cached_task
returns-in-Some-cached_task c =
    let s = c.args.store.now in
    let i = c.in-Some.spot.node in
    let both = found_alike (spot_at s.plan s.world c.in-Some.spot)
    (spot_of s.plan s.world c.args.exec.now c.args.path.now) c.in-Some.ensures in
    let task = c.in-Some-cached_task.ensures
    ∙ ap (λ plan. option_and_then (cached_task plan) (node_numbered plan i)) c.plan.ensures
    ∙ ap (option_and_then (cached_task s.plan)) (node_of-spot s.plan s.world c.in-Some.spot both.0 both.1) in
    (sym c.are_ids.ensures ∙ c.if-not-are_ids.false, both.0, both.1, both.2, sym task)
