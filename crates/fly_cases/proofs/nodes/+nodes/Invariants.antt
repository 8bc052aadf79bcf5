use Rattle.std.proofs.Common.{◌+◌, ◌*◌}
use Rattle.fly_cases.proofs.nodes.+nodes.Given as goal

abbrev pub decreases-target : goal.decreases-target
decreases-target l = 4 * l.depth

abbrev pub decreases-node : goal.decreases-node
decreases-node l = 4 * l.depth + 1

abbrev pub decreases-inner_node : goal.decreases-inner_node
decreases-inner_node l = 4 * l.depth + 2

abbrev pub decreases-branch : goal.decreases-branch
decreases-branch l = 4 * l.depth + 3
