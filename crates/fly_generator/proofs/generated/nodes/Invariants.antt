use Rattle.std.proofs.Common.{◌≡◌, map}
use Rattle.std.specs.List.{range_with_len}
use Rattle.fly_generator.specs.Generated.{node_numbered}
use Rattle.fly_generator.proofs.generated.nodes.Given as goal

-- the nodes so far are the first ones
abbrev pub invariant-loop-number : goal.invariant-loop-number
invariant-loop-number l = l.nodes.items ≡ map node_numbered (range_with_len 0 l.number)
