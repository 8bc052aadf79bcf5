use Rattle.std.proofs.Common.{◌≡◌, ℕ, ◌+◌, ◌<◌, Less, slice_index_or, nat_cmp}
use Rattle.std.specs.Cmp.Lexicographic.{slice_cmp}
use Rattle.fly_types.specs.declared.text.Text.{Text}
use Rattle.fly_types.specs.declared.literals.Literal.{Literal}
use Rattle.fly_templates.proofs.inputs.are_sorted.Given as goal

-- each name so far is below the next
abbrev pub invariant-loop-i : goal.invariant-loop-i
invariant-loop-i l = (k : ℕ) (d : Text × Literal) → k + 1 < l.i
    → slice_cmp nat_cmp (slice_index_or l.entries k d).0 (slice_index_or l.entries (k + 1) d).0 ≡ Less
