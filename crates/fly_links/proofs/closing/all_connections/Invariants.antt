use Rattle.std.proofs.Common.{◌≡◌, ◌∷◌, map, take}
use Rattle.fly_docs.specs.Closures.{connections_of}
use Rattle.fly_links.proofs.closing.all_connections.Given as goal

abbrev pub invariant-loop-workflow : goal.invariant-loop-workflow
invariant-loop-workflow l = l.all.items ≡ map connections_of (l.primary ∷ map (λ w. w.now)
    (take l.workflow-index l.others))
