use Rattle.std.proofs.Common.{◌≡◌, flat_map, take}
use Rattle.std.specs.List.{enumerate_from}
use Rattle.fly_round.specs.Moves.{node_moves}
use Rattle.fly_round.proofs.moves.round_moves.Given as goal

abbrev pub invariant-loop-number : goal.invariant-loop-number
invariant-loop-number l =
    l.moves.items ≡ flat_map (node_moves l.plan l.v l.told) (take l.number (enumerate_from 0 l.plan.nodes))
