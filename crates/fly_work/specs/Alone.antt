-- The parts of a turn of a worker that acts alone. Private contracts alone cite this file.
use Rattle.std.specs.Prelude.{◌≡◌, ◌⊎◌, ◌≤◌, ℕ, true, false, List, [], ◌∷◌, ◌++◌, map, length, take, Some, Result, Ok, Err}
use Rattle.std.specs.List.{AllZip}
use Rattle.fly_types.specs.declared.memory.NoMemory.{NoMemory}
use Rattle.fly_ports.specs.Clock.{ClockState}
use Rattle.fly_ports.specs.Faults.{Rises}
use Rattle.fly_state.specs.declared.entries.Entry.{Entry}
use Rattle.fly_state.specs.Plans.{RunPlan}
use Rattle.fly_world.specs.declared.work.Work.{Work}
use Rattle.fly_world.specs.World.{World}
use Rattle.fly_world.specs.Work.{work_of}
use Rattle.fly_world.specs.Kept.{Kept}
use Rattle.fly_round.specs.declared.told.Told.{Told}
use Rattle.fly_work.specs.declared.keep.KeepFault.{KeepFault}
use Rattle.fly_work.specs.declared.keep.KeepFault.TheVariants as keeping
use Rattle.fly_work.specs.declared.turn.Reached.{Reached}
use Rattle.fly_work.specs.declared.turn.Reached.TheVariants as reached
use Rattle.fly_work.specs.declared.turn.Stop.{Stop}
use Rattle.fly_work.specs.declared.turn.Stop.TheVariants as stop
use Rattle.fly_work.specs.declared.turn_end.TurnEnd.{TurnEnd}
use Rattle.fly_work.specs.declared.turn_end.TurnEnd.TheVariants as end
use Rattle.fly_work.specs.Children.{Child, RunsChild, CameTo}
use Rattle.fly_work.specs.Stages.{Turn, Stage, starting, running, over}
use Rattle.fly_work.specs.Turns.{call_entry, is_idle, claims_of, outcomes_of}
use Rattle.fly_work.specs.Acting.{IsPart}
use Rattle.fly_work.specs.Playing.{Outside}

-- the work of an attempt of the plan
abbrev pub IsWorkOfPlan : RunPlan → Work → Type 0
IsWorkOfPlan plan work = (w : World) × (work_of plan w work.name ≡ Some work)

-- ---- up to the claim

-- the last call claimed, and no other did
pub record ClaimsLast (calls : List Told) : Type 0 where
  pub before : List Told
  pub last : Told
  pub all : calls ≡ before ++ last ∷ []
  pub claims : claims_of calls ≡ last ∷ []

-- every execution is over; or it went on, and claimed nothing or this work
abbrev pub IsReached : RunPlan → Stage → List Told → Result Reached NoMemory → Type 0
IsReached plan at calls (Ok reached.Idle) = (at ≡ over) × (is_idle calls ≡ true) × (claims_of calls ≡ [])
IsReached plan at calls (Ok reached.Done) = (at ≡ over) × (is_idle calls ≡ false) × (claims_of calls ≡ [])
IsReached plan at calls (Ok (reached.Claimed work)) = (at ≡ running work) × (is_idle calls ≡ false)
    × ClaimsLast calls × IsWorkOfPlan plan work
IsReached plan at calls (Err _) = Unit {0}

-- The calls of a turn before its child.
pub record Reaches (t : Turn) (old new : Kept) (clock new_clock : ClockState)
    (result : Result Reached NoMemory) : Type 0 where
  pub calls : List Told
  pub at : Stage
  pub part : IsPart (Unit {0}) t starting at old new clock new_clock calls
  pub few : length calls ≤ 2_053
  pub claimed : length (claims_of calls) ≤ 1
  pub outcomes : outcomes_of calls ≡ []
  pub reached : IsReached old.plan at calls result

-- ---- from the child on

-- all was kept; or a keeping failed; or there was no memory
abbrev pub IsAttended : {K : Type 0} → (K → List Entry → K → Type 0) → (K → ℕ) → K → List Entry → K → Stage
    → Result (Unit {0}) Stop → Type 0
IsAttended kept faults old entries new at (Ok _) = (at ≡ over) × kept old entries new × (faults new ≡ faults old)
IsAttended kept faults old entries new at (Err stop.Keep) = Rises (faults old) (faults new)
IsAttended kept faults old entries new at (Err stop.NoMemory) = faults new ≡ faults old

-- The child of the work ran; and behind it the calls of its turn, which hand in at most what it came to, and of which
-- a first part was kept.
pub record AttendsTo {K : Type 0} (kept kept_part : K → List Entry → K → Type 0) (faults : K → ℕ) (t : Turn)
    (work : Work)
    (old new : Kept) (before after : Outside K) (result : Result (Unit {0}) Stop) : Type 0 where
  pub child : Child
  pub work_is : child.work ≡ work
  pub runs : RunsChild before.spawner after.spawner child
  pub calls : List Told
  pub at : Stage
  pub part : IsPart (Unit {0}) t (running work) at old new before.clock after.clock calls
  pub claims : claims_of calls ≡ []
  pub active : is_idle calls ≡ false
  pub outcomes : AllZip CameTo (take (length (outcomes_of calls)) (child ∷ [])) (outcomes_of calls)
  pub some : length (outcomes_of calls) ≤ 1
  pub part_kept : kept_part before.keeper (map (call_entry t.worker) calls) after.keeper
  pub attended : IsAttended kept faults before.keeper (map (call_entry t.worker) calls) after.keeper at result

-- no child ran, for want of memory
pub record AttendsNot {K : Type 0} (old new : Kept) (before after : Outside K)
    (result : Result (Unit {0}) Stop) : Type 0 where
  pub store : new ≡ old
  pub outside : after ≡ before
  pub short : result ≡ Err stop.NoMemory

abbrev pub Attends : {K : Type 0} → (K → List Entry → K → Type 0) → (K → List Entry → K → Type 0) → (K → ℕ) → Turn
    → Work
    → Kept → Kept → Outside K → Outside K → Result (Unit {0}) Stop → Type 0
Attends kept kept_part faults t work old new before after result =
    AttendsNot old new before after result ⊎ AttendsTo kept kept_part faults t work old new before after result

-- ---- all of it

-- a keeping that failed, or found no memory
abbrev pub stop_for : KeepFault → Stop
stop_for keeping.Failed = stop.Keep
stop_for keeping.NoMemory = stop.NoMemory

abbrev pub end_of : Result TurnEnd Stop → TurnEnd
end_of (Ok ends) = ends
end_of (Err stop.Keep) = end.Keep
end_of (Err stop.NoMemory) = end.NoMemory
