use Rattle.std.proofs.Common.{◌≡◌, ◌++◌, take, string_bytes}
use Rattle.fly_faults.specs.TypeText.{quoted, listed}
use Rattle.fly_faults.proofs.type_text.push_values.Given as goal

abbrev pub invariant-loop-place : goal.invariant-loop-place
invariant-loop-place l = string_bytes l.out ≡ string_bytes l.initial.out ++ listed quoted (take l.place l.values)
