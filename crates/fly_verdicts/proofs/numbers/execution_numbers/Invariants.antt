use Rattle.std.proofs.Common.{◌≡◌, List, ℕ, take, position}
use Rattle.std.specs.BTreeMap.{get}
use Rattle.std.specs.Ordering.{is_eq, nat_cmp}
use Rattle.std.specs.Cmp.Lexicographic.{slice_cmp}
use Rattle.fly_world.specs.Versions.{execution_names}
use Rattle.fly_verdicts.proofs.numbers.execution_numbers.Given as goal

abbrev pub invariant-loop-number : goal.invariant-loop-number
invariant-loop-number l =
    (exec : List ℕ) → get (slice_cmp nat_cmp) l.numbers exec
    ≡ position (λ k. is_eq (slice_cmp nat_cmp exec k)) (take l.number (execution_names l.world.world))
