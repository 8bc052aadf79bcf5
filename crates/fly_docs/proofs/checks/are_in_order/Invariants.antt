use Rattle.std.proofs.Common.{◌≡◌, ℕ, ◌+◌, ◌<◌, Less, slice_index_or, nat_cmp}
use Rattle.std.specs.Cmp.Lexicographic.{slice_cmp}
use Rattle.fly_types.specs.declared.variable.Variable.{Variable}
use Rattle.fly_docs.proofs.checks.are_in_order.Given as goal

-- each name so far is below the next
abbrev pub invariant-loop-i : goal.invariant-loop-i
invariant-loop-i l = (k : ℕ) (d : Variable) → k + 1 < l.i → slice_cmp nat_cmp (slice_index_or l.variables k d).name (slice_index_or l.variables (k + 1) d).name ≡ Less
