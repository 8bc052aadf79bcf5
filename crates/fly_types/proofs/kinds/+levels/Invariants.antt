use Rattle.std.proofs.Common.{◌≤◌, map, take}
use Rattle.fly_types.specs.Levels.{type_levels, largest}
use Rattle.fly_types.proofs.kinds.+levels.Given as goal

abbrev pub invariant-have_at_most-loop-kind : goal.invariant-have_at_most-loop-kind
invariant-have_at_most-loop-kind l = largest (map type_levels (take l.kind-index l.kinds)) ≤ l.levels
