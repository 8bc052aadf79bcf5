use Rattle.std.proofs.Common.{◌≡◌, take}
use Rattle.std.specs.Process.{command_program, command_args}
use Rattle.fly_ports.proofs.os_spawner.command_of.Given as goal

-- the words so far are the arguments
abbrev pub invariant-loop-word : goal.invariant-loop-word
invariant-loop-word l = (command_program l.command ≡ command_program l.initial.command) × (command_args l.command ≡ take l.word-index l.others)
