use Rattle.std.proofs.Common.{◌≡◌, map, take}
use Rattle.fly_docs.specs.declared.node.Node.{Node}
use Rattle.fly_links.proofs.layout.ids_of.Given as goal

abbrev pub invariant-loop-node : goal.invariant-loop-node
invariant-loop-node l = map (λ i. i.now) l.ids.items ≡ map (λ (n : Node). n.id) (map (λ n. n.now) (take l.node-index l.nodes))
