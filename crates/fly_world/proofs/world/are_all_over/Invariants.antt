use Rattle.std.proofs.Common.{◌≡◌, true, take}
use Rattle.std.specs.List.{list_all}
use Rattle.fly_world.specs.World.{is_over}
use Rattle.fly_world.proofs.world.are_all_over.Given as goal

abbrev pub invariant-loop-number : goal.invariant-loop-number
invariant-loop-number l = list_all is_over (take l.number l.store.world.executions) ≡ true
