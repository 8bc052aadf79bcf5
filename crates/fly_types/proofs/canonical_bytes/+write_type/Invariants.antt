use Rattle.std.proofs.Common.{◌≡◌, ◌++◌, map, take}
use Rattle.std.specs.List.{concat}
use Rattle.fly_types.specs.Canonical.{type_bytes}
use Rattle.fly_types.proofs.canonical_bytes.+write_type.Given as goal

abbrev pub invariant-write_types-loop-kind : goal.invariant-write_types-loop-kind
invariant-write_types-loop-kind l = l.out.items ≡ l.initial.out.items ++ concat (map type_bytes (take l.kind-index l.kinds))
