use Rattle.std.proofs.Common.{◌+◌, ◌*◌}
use Rattle.fly_cases.proofs.bounds.+bounds.Given as goal

abbrev pub decreases-bound : goal.decreases-bound
decreases-bound l = 2 * l.depth

abbrev pub decreases-collection : goal.decreases-collection
decreases-collection l = 2 * l.depth + 1

abbrev pub decreases-map : goal.decreases-map
decreases-map l = 2 * l.depth + 1
