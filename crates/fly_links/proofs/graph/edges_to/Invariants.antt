use Rattle.std.proofs.Common.{◌≡◌, take}
use Rattle.fly_links.specs.Search.{edges_along}
use Rattle.fly_links.proofs.graph.edges_to.Given as goal

abbrev pub invariant-loop-place : goal.invariant-loop-place
invariant-loop-place l = l.edges.items ≡ edges_along (take l.place l.targets)
