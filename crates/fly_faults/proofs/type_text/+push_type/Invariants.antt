use Rattle.std.proofs.Common.{◌≡◌, ◌++◌, take, string_bytes}
use Rattle.fly_faults.specs.TypeText.{listed, text_of_type}
use Rattle.fly_faults.proofs.type_text.+push_type.Given as goal

abbrev pub invariant-push_variants-loop-place : goal.invariant-push_variants-loop-place
invariant-push_variants-loop-place l = string_bytes l.out ≡ string_bytes l.initial.out ++ listed text_of_type (take l.place l.variants)
