use Rattle.std.proofs.Common.{◌≡◌, ◌+◌, ◌==◌, drop}
use Rattle.std.specs.List.{prefix_len}
use Rattle.fly_faults.proofs.templates.space_count.Given as goal

abbrev pub invariant-loop-at : goal.invariant-loop-at
invariant-loop-at l = prefix_len (λ byte. byte == 32) l.text ≡ l.at + prefix_len (λ byte. byte == 32) (drop l.at l.text)
