use Rattle.std.proofs.Common.{◌≡◌, take}
use Rattle.fly_docs.proofs.binding.+copy_bound.Given as goal

-- what is copied so far are the sources so far
abbrev pub invariant-copy_bounds-loop-bound : goal.invariant-copy_bounds-loop-bound
invariant-copy_bounds-loop-bound l = l.copied.items ≡ take l.bound-index l.bounds

abbrev pub invariant-copy_entries-loop-name : goal.invariant-copy_entries-loop-name
invariant-copy_entries-loop-name l = l.copied.items ≡ take l.name-index l.entries
