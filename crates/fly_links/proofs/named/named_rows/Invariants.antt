use Rattle.std.proofs.Common.{◌≡◌, map, take}
use Rattle.fly_links.specs.Named.{places_in}
use Rattle.fly_links.proofs.named.named_rows.Given as goal

abbrev pub invariant-loop-node : goal.invariant-loop-node
invariant-loop-node l = l.rows.items ≡ map (places_in l.layout) (map (λ n. n.now) (take l.node-index l.nodes))
