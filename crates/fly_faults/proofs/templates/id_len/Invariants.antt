use Rattle.std.proofs.Common.{◌≡◌, ◌+◌, drop}
use Rattle.std.specs.List.{prefix_len}
use Rattle.fly_docs.specs.Names.{is_id_byte}
use Rattle.fly_faults.proofs.templates.id_len.Given as goal

abbrev pub invariant-loop-at : goal.invariant-loop-at
invariant-loop-at l = prefix_len is_id_byte l.text ≡ l.at + prefix_len is_id_byte (drop l.at l.text)
