use Rattle.std.proofs.Common.{◌≡◌, filter_map, take}
use Rattle.fly_world.proofs.LaunchViews.{known_at}
use Rattle.fly_world.proofs.views.launches_before.Given as goal

abbrev pub invariant-loop-number : goal.invariant-loop-number
invariant-loop-number l = l.all.items ≡ filter_map (known_at l.store.world l.end) (take l.number-index l.numbers)
