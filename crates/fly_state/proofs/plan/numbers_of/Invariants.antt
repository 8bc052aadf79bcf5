use Rattle.std.proofs.Common.{◌≡◌, List, ℕ, map, take, position}
use Rattle.std.specs.BTreeMap.{get}
use Rattle.std.specs.Ordering.{is_eq, nat_cmp}
use Rattle.std.specs.Cmp.Lexicographic.{slice_cmp}
use Rattle.fly_docs.specs.declared.node.Node.{Node}
use Rattle.fly_state.proofs.plan.numbers_of.Given as goal

abbrev pub invariant-loop-number : goal.invariant-loop-number
invariant-loop-number l =
    (id : List ℕ) → get (slice_cmp nat_cmp) l.numbers id
    ≡ position (λ k. is_eq (slice_cmp nat_cmp id k)) (take l.number (map (λ (n : Node). n.id) l.nodes))
