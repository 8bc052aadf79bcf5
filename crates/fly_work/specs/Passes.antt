-- The passes of a drive. Private contracts alone cite this file.
use Rattle.std.specs.Prelude.{◌≡◌, ◌≤◌, ◌<◌, ℕ, ◌+◌, ◌*◌, false, List, [], ◌∷◌, All, flat_map, length, Option, Some, None, Result, Ok, Err}
use Rattle.fly_state.specs.declared.entries.Entry.{Entry}
use Rattle.fly_state.specs.Plans.{RunPlan}
use Rattle.fly_world.specs.Kept.{Kept, IsLegal}
use Rattle.fly_world.specs.World.{unsettled}
use Rattle.fly_round.specs.declared.told.Told.{Told}
use Rattle.fly_work.specs.declared.driving.DriveFault.{DriveFault}
use Rattle.fly_work.specs.declared.driving.DriveFault.TheVariants as fault
use Rattle.fly_work.specs.declared.turn_end.TurnEnd.{TurnEnd}
use Rattle.fly_work.specs.declared.turn_end.TurnEnd.TheVariants as end
use Rattle.fly_work.specs.Stages.{Turn, over, read_back}
use Rattle.fly_work.specs.Turns.{IsTurn, is_idle, claims_of, outcomes_of}
use Rattle.fly_work.specs.Playing.{Outside, HasWorked, IsWhole, PlaysTurn}
use Rattle.fly_work.specs.Bounds.{world_bound}
use Rattle.fly_work.specs.Drives.{turn_numbered}
use Rattle.fly_work.specs.Progress.{progress}

-- whole turns of these numbers and on
abbrev pub AreWhole : RunPlan → List ℕ → List Entry → (ℕ → Turn) → ℕ → List (List Told) → Type 0
AreWhole plan closure journal t number [] = Unit {0}
AreWhole plan closure journal t number (calls ∷ more) =
    IsTurn plan closure journal (t number) calls over × AreWhole plan closure journal t (number + 1) more

-- So many whole turns of a worker that acts alone, of this number and on, none of which found every execution over: what
-- they have done, each claim with its outcome, and what they left as it was.
pub record GoesOn {K : Type 0} (kept kept_part : K → List Entry → K → Type 0) (faults : K → ℕ) (lag number count : ℕ)
    (store new_store : Kept) (before after : Outside K) : Type 0 where
  pub turns : List (List Told)
  pub count_is : length turns ≡ count
  pub are_whole : AreWhole store.plan store.closure new_store.world.entries
      (turn_numbered (length store.world.executions) lag) number turns
  pub busy : All (λ calls. is_idle calls ≡ false) turns
  pub did : HasWorked kept kept_part 0 (flat_map (λ calls. calls) turns) store new_store before after
  pub whole : IsWhole did
  pub heard : length (claims_of (flat_map (λ calls. calls) turns))
      ≤ length (outcomes_of (flat_map (λ calls. calls) turns))
  pub faults_are : faults after.keeper ≡ faults before.keeper
  pub executions : length new_store.world.executions ≡ length store.world.executions
  pub bound : world_bound store.plan new_store.world ≡ world_bound store.plan store.world
  pub legal : IsLegal new_store
  pub settled : unsettled new_store.world ≡ None

-- the turn that ends a drive so
abbrev pub EndsBy : Result (Unit {0}) DriveFault → TurnEnd → Type 0
EndsBy (Ok _) ends = ends ≡ end.Idle
EndsBy (Err fault.Keep) ends = ends ≡ end.Keep
EndsBy (Err fault.NoMemory) ends = ends ≡ end.NoMemory

-- Behind so many turns of a pass, fewer than there are executions, one that ends the drive.
pub record EndsPass {K : Type 0} (kept kept_part : K → List Entry → K → Type 0) (faults : K → ℕ) (lag first : ℕ)
    (store new_store : Kept) (before after : Outside K) (result : Result (Unit {0}) DriveFault) : Type 0 where
  pub count : ℕ
  pub within : count < length store.world.executions
  pub mid : Kept
  pub between : Outside K
  pub goes : GoesOn kept kept_part faults lag first count store mid before between
  pub ends : TurnEnd
  pub ends_by : EndsBy result ends
  pub last : PlaysTurn kept kept_part faults (turn_numbered (length store.world.executions) lag (first + count))
      mid new_store between after ends

-- So many turns of a pass that went on; where the first looks back no version, they made progress.
pub record GoesInPass {K : Type 0} (kept kept_part : K → List Entry → K → Type 0) (faults : K → ℕ)
    (lag first count : ℕ) (store new_store : Kept) (before after : Outside K) : Type 0 where
  pub goes : GoesOn kept kept_part faults lag first count store new_store before after
  pub progresses : 0 < count → read_back (turn_numbered (length store.world.executions) lag first) ≡ 0
      → progress store.plan store.world < progress store.plan new_store.world

-- by what a pass answers: as many turns as there are executions went on, or one ended the drive
abbrev pub MakesPass : {K : Type 0} → (K → List Entry → K → Type 0) → (K → List Entry → K → Type 0) → (K → ℕ) → ℕ → ℕ
    → Kept → Kept → Outside K → Outside K → Option (Result (Unit {0}) DriveFault) → Type 0
MakesPass kept kept_part faults lag first store new_store before after None =
    GoesInPass kept kept_part faults lag first (length store.world.executions) store new_store before after
MakesPass kept kept_part faults lag first store new_store before after (Some result) =
    EndsPass kept kept_part faults lag first store new_store before after result

-- So many passes that went on are behind, since the drive began: their turns, each step counted, and no more of them
-- than progress allows.
pub record HasPassed {K : Type 0} (kept kept_part : K → List Entry → K → Type 0) (faults : K → ℕ) (lag first : ℕ)
    (store new_store : Kept) (before after : Outside K) (steps new_steps : ℕ) : Type 0 where
  pub passes : ℕ
  pub number : first ≡ passes * length store.world.executions
  pub counted : new_steps ≡ steps + passes
  pub goes : GoesOn kept kept_part faults lag 0 first store new_store before after
  pub bounded : passes + (lag + 1) * progress store.plan store.world ≤ (lag + 1) * progress store.plan new_store.world
