use Rattle.std.proofs.Common.{◌≡◌, ◌++◌, drop}
use Rattle.fly_work.proofs.memory_keep.copies_from.Given as goal

abbrev pub invariant-loop-place : goal.invariant-loop-place
invariant-loop-place l = l.copies.items ++ drop l.place l.w.world.entries ≡ drop l.from l.w.world.entries
