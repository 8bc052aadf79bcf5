-- A spawner in memory.
use Rattle.std.specs.Prelude.{ℕ, ◌≡◌, List, [], ◌∷◌, ◌++◌, take, Option, None, Some, Result, Ok, Err, if◌then◌else◌, bytes_eq, ⊤}
use Rattle.std.specs.List.{find}
use Rattle.fly_ports.specs.Faults.{next_count, is_bad}
use Rattle.fly_ports.specs.Spawner.{SpawnerState, run_of}
use Rattle.fly_ports.specs.declared.faults.SpawnFault.{SpawnFault}
use Rattle.fly_ports.specs.declared.faults.SpawnFault.TheVariants.{Failed, NoMemory}
use Rattle.fly_ports.specs.declared.spawner.Ended.{Ended}
use Rattle.fly_ports.specs.declared.spawner.Run.{Run}
use Rattle.fly_ports.specs.declared.spawner.TheConstants.{MAX_OUTPUT}

-- the answers by name, the numbers of the calls that are to fail, the runs, and the calls and faults so far
pub record SpawnerMemory : Type 0 where
  pub answers : List (List ℕ × Ended)
  pub bad : List ℕ
  pub runs : List Run
  pub calls : ℕ
  pub faults : ℕ

-- a spawner that was not called yet
abbrev pub new_spawner : List (List ℕ × Ended) → List ℕ → SpawnerMemory
new_spawner answers bad = record { answers = answers; bad = bad; runs = []; calls = 0; faults = 0 }

-- all its runs, and its count
abbrev pub spawner_state : SpawnerMemory → SpawnerState
spawner_state s = record { runs = Some s.runs; faults = s.faults }

-- the end with the first bytes of its output, as many as are kept
abbrev pub short_end : Ended → Ended
short_end ended = record ended { out = take MAX_OUTPUT ended.out }

-- the answer that a pair gives, and a failure where there is none
abbrev pub answer_from : Option (List ℕ × Ended) → Result Ended SpawnFault
answer_from None = Err Failed
answer_from (Some pair) = Ok (short_end pair.1)

-- the answer of the first pair with this name
abbrev pub answer_of : List (List ℕ × Ended) → List ℕ → Result Ended SpawnFault
answer_of answers name = answer_from (find (λ pair. bytes_eq pair.0 name) answers)

-- what the next run of this name answers
abbrev pub next_answer : SpawnerMemory → List ℕ → Result Ended SpawnFault
next_answer s name = if is_bad s.bad (next_count s.calls) then Err Failed else answer_of s.answers name

-- the answer is this one, or want of memory
abbrev pub IsDue : Result Ended SpawnFault → Result Ended SpawnFault → Type 0
IsDue (Ok ended) due = due ≡ Ok ended
IsDue (Err Failed) due = due ≡ Err Failed
IsDue (Err NoMemory) due = ⊤

-- the spawner after a run with this answer; a run that answers for want of memory has no number
abbrev pub spawner_after : SpawnerMemory → List ℕ → List (List ℕ) → List ℕ → Result Ended SpawnFault → SpawnerMemory
spawner_after s name words input (Ok ended) =
    record s { runs = s.runs ++ run_of name words input (Ok ended) ∷ []; calls = next_count s.calls }
spawner_after s name words input (Err Failed) =
    record s { runs = s.runs ++ run_of name words input (Err Failed) ∷ []; calls = next_count s.calls; faults = next_count s.faults }
spawner_after s name words input (Err NoMemory) = s
