use Rattle.std.proofs.Common.{◌≡◌, take}
use Rattle.fly_types.proofs.kinds.+copy_type.Given as goal

abbrev pub invariant-copy_types-loop-kind : goal.invariant-copy_types-loop-kind
invariant-copy_types-loop-kind l = l.copied.items ≡ take l.kind-index l.types
