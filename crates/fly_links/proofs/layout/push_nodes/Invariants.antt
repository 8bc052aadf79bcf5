use Rattle.std.proofs.Common.{◌≡◌, ◌∷◌, ◌++◌, map, flat_map, take}
use Rattle.fly_docs.specs.Plans.{inner_nodes}
use Rattle.fly_links.proofs.layout.push_nodes.Given as goal

abbrev pub invariant-loop-node : goal.invariant-loop-node
invariant-loop-node l =
    map (λ n. n.now) l.laid.items ≡ map (λ n. n.now) l.initial.laid.items ++ flat_map (λ n. n ∷ inner_nodes n) (take l.node-index l.nodes)
