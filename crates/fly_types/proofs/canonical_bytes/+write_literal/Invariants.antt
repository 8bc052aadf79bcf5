use Rattle.std.proofs.Common.{◌≡◌, ◌++◌, map, take}
use Rattle.std.specs.List.{concat}
use Rattle.fly_types.specs.Canonical.{literal_bytes, entry_bytes}
use Rattle.fly_types.proofs.canonical_bytes.+write_literal.Given as goal

abbrev pub invariant-write_literals-loop-literal : goal.invariant-write_literals-loop-literal
invariant-write_literals-loop-literal l = l.out.items ≡ l.initial.out.items ++ concat (map literal_bytes (take l.literal-index l.literals))

abbrev pub invariant-write_entries-loop-name : goal.invariant-write_entries-loop-name
invariant-write_entries-loop-name l = l.out.items ≡ l.initial.out.items ++ concat (map entry_bytes (take l.name-index l.entries))
