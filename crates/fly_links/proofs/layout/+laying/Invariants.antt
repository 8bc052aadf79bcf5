use Rattle.std.proofs.Common.{◌≡◌, ◌∷◌, ◌++◌, map, flat_map, take}
use Rattle.fly_docs.specs.Plans.{inner_nodes}
use Rattle.fly_links.specs.Layout.{case_node}
use Rattle.fly_links.proofs.layout.+laying.Given as goal

abbrev pub invariant-push_cases-loop-case : goal.invariant-push_cases-loop-case
invariant-push_cases-loop-case l =
    map (λ n. n.now) l.laid.items ≡ map (λ n. n.now) l.initial.laid.items ++ flat_map (λ c. case_node c ∷ inner_nodes (case_node c)) (take l.case-index l.cases)
