use Rattle.std.proofs.Common.{◌≡◌, take}
use Rattle.fly_types.proofs.literals.+copy_literal.Given as goal

abbrev pub invariant-copy_literals-loop-literal : goal.invariant-copy_literals-loop-literal
invariant-copy_literals-loop-literal l = l.copied.items ≡ take l.literal-index l.literals

abbrev pub invariant-copy_entries-loop-name : goal.invariant-copy_entries-loop-name
invariant-copy_entries-loop-name l = l.copied.items ≡ take l.name-index l.entries
