use Rattle.std.proofs.Common.{◌≡◌, map, take}
use Rattle.std.specs.BTreeMap.{get}
use Rattle.std.specs.Ordering.{nat_cmp}
use Rattle.std.specs.Cmp.Lexicographic.{slice_cmp}
use Rattle.fly_state.specs.Sites.{site_by}
use Rattle.fly_state.proofs.sites.sites_of.Given as goal

abbrev pub invariant-loop-node : goal.invariant-loop-node
invariant-loop-node l = l.sites.items ≡ map (site_by l.tasks (get (slice_cmp nat_cmp) l.numbers)) (take l.node-index l.nodes)
