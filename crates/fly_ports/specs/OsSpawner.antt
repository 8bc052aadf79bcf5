-- What contracts see of the programs of the system.
use Rattle.std.specs.Prelude.{ℕ, ◌≡◌, List, ◌∷◌, None}
use Rattle.std.specs.Process.{command_program, command_args}
use Rattle.std.specs.declared.alloc.Global.{Global}
use Rattle.std.specs.declared.process.command.Command.{Command}
use Rattle.fly_ports.specs.Spawner.{SpawnerState}
use Rattle.fly_ports.specs.declared.os_spawner.OsSpawner.{OsSpawner}

-- how many runs have failed
abbrev pub faults : {R : Type 0} → OsSpawner R → ℕ
faults spawner = spawner.faults

-- the count of the spawner, which tells no runs
abbrev pub spawner_state : {R : Type 0} → OsSpawner R → SpawnerState
spawner_state spawner = record { runs = None; faults = faults spawner }

-- the command starts the first word, with the others as they are
abbrev pub StartsWords : Command Global → List (List ℕ) → Type 0
StartsWords command words = words ≡ command_program command ∷ command_args command
