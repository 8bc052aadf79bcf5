use Rattle.std.proofs.Common.{◌≡◌, ◌++◌, map, take}
use Rattle.fly_links.proofs.graph.push_edges.Given as goal

abbrev pub invariant-loop-target : goal.invariant-loop-target
invariant-loop-target l = l.edges.items ≡ l.initial.edges.items ++ map (λ t. (l.place, t)) (take l.target-index l.targets)
