-- What it means to drive a run alone: turns one after another until one finds every execution over, fails to keep or finds
-- no memory.
use Rattle.std.specs.Prelude.{◌≡◌, ◌≤◌, ◌<◌, ◌+◌, ◌*◌, ℕ, true, false, List, [], ◌∷◌, ◌++◌, All, flat_map, length, Result, Ok, Err}
use Rattle.fly_ports.specs.Faults.{Rises}
use Rattle.fly_docs.specs.declared.task.Task.{Task}
use Rattle.fly_state.specs.declared.entries.Entry.{Entry}
use Rattle.fly_state.specs.Plans.{RunPlan}
use Rattle.fly_world.specs.World.{are_all_over}
use Rattle.fly_world.specs.Kept.{Kept}
use Rattle.fly_round.specs.declared.told.Told.{Told}
use Rattle.fly_work.specs.declared.driving.DriveFault.{DriveFault}
use Rattle.fly_work.specs.declared.driving.DriveFault.TheVariants as fault
use Rattle.fly_work.specs.Stages.{Turn, Stage, over}
use Rattle.fly_work.specs.Turns.{IsTurn, is_idle, reads_of}
use Rattle.fly_work.specs.Playing.{Outside, HasWorked, IsWhole}
use Rattle.fly_work.specs.Bounds.{pass_bound}

-- no task's outputs are cached, so that no run waits for what another one has reserved
abbrev pub IsUncached : RunPlan → Type 0
IsUncached plan = All (λ (t : Task). t.cached ≡ false) plan.documents.tasks

-- ---- turns one after another

abbrev pub turn_numbered : ℕ → ℕ → ℕ → Turn
turn_numbered executions lag number = record { worker = 0; number = number; executions = executions; lag = lag }

-- turns of these numbers and on, all of them whole but the last, of which there may be a first part
abbrev pub AreTurns : RunPlan → List ℕ → List Entry → (ℕ → Turn) → ℕ → List (List Told) → Type 0
AreTurns plan closure journal t number [] = Unit {0}
AreTurns plan closure journal t number (calls ∷ []) = (at : Stage) × IsTurn plan closure journal (t number) calls at
AreTurns plan closure journal t number (calls ∷ more) =
    IsTurn plan closure journal (t number) calls over × AreTurns plan closure journal t (number + 1) more

-- the last of them is whole too and found every execution over, which none before it did
abbrev pub EndsIdle : RunPlan → List ℕ → List Entry → (ℕ → Turn) → ℕ → List (List Told) → Type 0
EndsIdle plan closure journal t number turns = (before : List (List Told)) × (last : List Told) × (turns ≡ before ++ last ∷ [])
    × IsTurn plan closure journal (t (number + length before)) last over × (is_idle last ≡ true)
    × All (λ calls. is_idle calls ≡ false) before

-- ---- answers

-- by the answer: every execution is over, all children ran and all was kept; or a keeping failed; or there was no memory
abbrev pub EndsDrive : {K : Type 0} → (K → ℕ) → K → K → Kept → Type 0 → Result (Unit {0}) DriveFault → Type 0
EndsDrive faults old new store whole (Ok _) = (are_all_over store.world ≡ true) × whole
EndsDrive faults old new store whole (Err fault.Keep) = Rises (faults old) (faults new)
EndsDrive faults old new store whole (Err fault.NoMemory) = Unit {0}

-- A worker that drove a run alone, around so many executions, looking back at most so many versions: its turns from
-- number 0 on, what their calls have done, and how it ended. It has begun no more passes than the bound, each of which
-- made a turn, and no more turns than there are executions; and it counted each pass.
pub record DrivesAlone {K : Type 0} (kept kept_part : K → List Entry → K → Type 0) (faults : K → ℕ) (lag : ℕ)
    (store new_store : Kept) (before after : Outside K) (steps new_steps : ℕ) (result : Result (Unit {0}) DriveFault) : Type 0 where
  pub turns : List (List Told)
  pub are_turns : AreTurns store.plan store.closure new_store.world.entries (turn_numbered (length store.world.executions) lag) 0 turns
  pub did : HasWorked kept kept_part 0 (flat_map (λ calls. calls) turns) store new_store before after
  pub idle : result ≡ Ok _ → EndsIdle store.plan store.closure new_store.world.entries (turn_numbered (length store.world.executions) lag) 0 turns
  pub ended : EndsDrive faults before.keeper after.keeper new_store (IsWhole did) result
  pub passes : ℕ
  pub counted : new_steps ≡ steps + passes
  pub bounded : passes ≤ pass_bound store.plan new_store.world lag
  pub few_turns : length turns ≤ length store.world.executions * passes
  pub begun : length store.world.executions * passes < length turns + length store.world.executions
  pub few_reads : length (reads_of (flat_map (λ calls. calls) turns)) ≤ length store.world.executions * passes
