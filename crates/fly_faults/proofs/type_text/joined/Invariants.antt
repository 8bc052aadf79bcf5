use Rattle.std.proofs.Common.{◌≡◌, take, string_bytes}
use Rattle.fly_faults.specs.TypeText.{listed}
use Rattle.fly_faults.proofs.type_text.joined.Given as goal

abbrev pub invariant-loop-place : goal.invariant-loop-place
invariant-loop-place l = string_bytes l.out ≡ listed (λ text. text.now) (take l.place l.texts)
