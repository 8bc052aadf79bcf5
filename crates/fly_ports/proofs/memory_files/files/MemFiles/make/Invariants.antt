use Rattle.std.proofs.Common.{◌≡◌}
use Rattle.fly_ports.proofs.memory_files.files.MemFiles.make.Given as goal

-- the slots are the files so far
abbrev pub invariant-loop-file : goal.invariant-loop-file
invariant-loop-file l = l.slots.items ≡ l.yielded
