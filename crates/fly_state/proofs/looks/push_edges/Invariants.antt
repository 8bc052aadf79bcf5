use Rattle.std.proofs.Common.{◌≡◌, ◌++◌, map, take}
use Rattle.fly_state.proofs.looks.push_edges.Given as goal

abbrev pub invariant-loop-look : goal.invariant-loop-look
invariant-loop-look l = l.edges.items ≡ l.initial.edges.items ++ map (λ u. (u, l.number)) (take l.look-index l.looks)
