-- The runs of a spawner.
use Rattle.std.specs.Prelude.{ℕ, ◌≡◌, List, [], ◌∷◌, ◌++◌, Option, option_map, Result, Ok, Err}
use Rattle.fly_ports.specs.Faults.{Rises}
use Rattle.fly_ports.specs.declared.faults.SpawnFault.{SpawnFault}
use Rattle.fly_ports.specs.declared.faults.SpawnFault.TheVariants.{Failed, NoMemory}
use Rattle.fly_ports.specs.declared.spawner.Ended.{Ended}
use Rattle.fly_ports.specs.declared.spawner.Run.{Run}

-- the runs so far, where the spawner tells them, and how many of them have failed
pub record SpawnerState : Type 0 where
  pub runs : Option (List Run)
  pub faults : ℕ

-- the call of a spawner with this answer
abbrev pub run_of : List ℕ → List (List ℕ) → List ℕ → Result Ended SpawnFault → Run
run_of name words input answer = record { name = name; words = words; input = input; answer = answer }

-- the runs with one more, where they are told
abbrev pub runs_with : Option (List Run) → Run → Option (List Run)
runs_with runs run = option_map (λ before. before ++ run ∷ []) runs

-- there is one run more, and none failed
pub record AddsRun (old new : SpawnerState) (run : Run) : Type 0 where
  pub runs : new.runs ≡ runs_with old.runs run
  pub faults : new.faults ≡ old.faults

-- there is one run more, which failed
pub record AddsFailure (old new : SpawnerState) (run : Run) : Type 0 where
  pub runs : new.runs ≡ runs_with old.runs run
  pub faults : Rises old.faults new.faults

-- a run that answered this; for want of memory it is none, and nothing changed
abbrev pub RunsProgram : SpawnerState → SpawnerState → List ℕ → List (List ℕ) → List ℕ → Result Ended SpawnFault → Type 0
RunsProgram old new name words input (Ok ended) = AddsRun old new (run_of name words input (Ok ended))
RunsProgram old new name words input (Err Failed) = AddsFailure old new (run_of name words input (Err Failed))
RunsProgram old new name words input (Err NoMemory) = new ≡ old
