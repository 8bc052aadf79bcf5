use Rattle.std.specs.Prelude.{◌≡◌, ◌+◌, ◌≤◌, drop, length}
use Rattle.fly_world.specs.ReadOff.{launched_in}
use Rattle.fly_make.proofs.summary.launch_count.Given as goal

abbrev pub invariant-loop-place : goal.invariant-loop-place
invariant-loop-place l =
    (l.count + length (launched_in (drop l.place l.world.world.entries)) ≡ length (launched_in l.world.world.entries))
    × (l.count ≤ l.place)
