use Rattle.std.specs.Prelude.{◌≡◌, ◌++◌, drop, string_bytes}
use Rattle.fly_app.specs.Printing.{fault_lines}
use Rattle.fly_app.proofs.printing.fault_lines.Given as goal

abbrev pub invariant-loop-fault : goal.invariant-loop-fault
invariant-loop-fault l = string_bytes l.lines ++ fault_lines (drop l.fault-index l.faults) ≡ fault_lines l.fn.faults
