use Rattle.std.proofs.Common.{◌≡◌}
use Rattle.fly_world.specs.Views.{first_between}
use Rattle.fly_world.proofs.views.first_going_on.Given as goal

abbrev pub invariant-loop-number : goal.invariant-loop-number
invariant-loop-number l = first_between l.store.world l.from l.end ≡ first_between l.store.world l.number l.end
