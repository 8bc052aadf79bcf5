-- The parts of a turn. Private contracts alone cite this file.
use Rattle.std.specs.Prelude.{◌≡◌, ◌⊎◌, ◌≤◌, ℕ, true, false, List, [], ◌∷◌, ◌++◌, length, Option, Some, None, Result, Ok, Err, IsSome}
use Rattle.fly_ports.specs.Clock.{ClockState}
use Rattle.fly_ports.specs.Spawner.{SpawnerState}
use Rattle.fly_types.specs.declared.memory.NoMemory.{NoMemory}
use Rattle.fly_policy.specs.declared.outcome.Outcome.{Outcome}
use Rattle.fly_state.specs.declared.entries.Op.{Op}
use Rattle.fly_state.specs.declared.moves.Move.{Move}
use Rattle.fly_state.specs.declared.view.View.{View}
use Rattle.fly_state.specs.OfPlan.{IsViewOfPlan}
use Rattle.fly_state.specs.Plans.{RunPlan}
use Rattle.fly_world.specs.declared.work.Work.{Work}
use Rattle.fly_world.specs.World.{World}
use Rattle.fly_world.specs.Kept.{Kept}
use Rattle.fly_world.specs.Steps.{step}
use Rattle.fly_round.specs.declared.told.Told.{Told}
use Rattle.fly_round.specs.Moves.{round_moves}
use Rattle.fly_round.specs.Questions.{next_question}
use Rattle.fly_work.specs.Children.{Child, RunsChild, CameTo}
use Rattle.fly_work.specs.Stages.{Turn, Stage, starting, asking, running, over}
use Rattle.fly_work.specs.Turns.{is_idle, claims_of, outcomes_of}
use Rattle.fly_work.specs.Acting.{IsPart}

-- the operation may stand in a journal of the plan, whatever is in the store
abbrev pub MayStand : RunPlan → ℕ → Op → Type 0
MayStand plan worker o = (w : World) → IsSome (step plan w worker o)

-- ---- opening

-- over every execution that is over, or over a view of one
abbrev pub IsOpened : RunPlan → Stage → List Told → Result (Option View) NoMemory → Type 0
IsOpened plan at calls (Ok None) = (at ≡ over) × (is_idle calls ≡ true)
IsOpened plan at calls (Ok (Some v)) = (at ≡ asking v []) × IsViewOfPlan plan v × (is_idle calls ≡ false)
IsOpened plan at calls (Err _) = Unit {0}

-- the ticks, the sweep and the read of a turn; at most three calls, none of them a claim
pub record Opens (alone : Type 0) (t : Turn) (old new : Kept) (clock new_clock : ClockState) (result : Result (Option View) NoMemory) : Type 0 where
  pub calls : List Told
  pub at : Stage
  pub part : IsPart alone t starting at old new clock new_clock calls
  pub few : length calls ≤ 3
  pub claims : claims_of calls ≡ []
  pub outcomes : outcomes_of calls ≡ []
  pub opened : IsOpened old.plan at calls result

-- ---- asking

-- all questions of the round were asked, and these are its moves
abbrev pub IsAsked : RunPlan → View → Stage → Result (List Move) NoMemory → Type 0
IsAsked plan v at (Ok moves) = (told : List Told) × (at ≡ asking v told) × (next_question plan v told ≡ None) × (moves ≡ round_moves plan v told)
IsAsked plan v at (Err _) = Unit {0}

pub record AsksAll (alone : Type 0) (t : Turn) (v : View) (old new : Kept) (clock : ClockState) (result : Result (List Move) NoMemory) : Type 0 where
  pub calls : List Told
  pub at : Stage
  pub part : IsPart alone t (asking v []) at old new clock clock calls
  pub few : length calls ≤ 2_048
  pub claims : claims_of calls ≡ []
  pub outcomes : outcomes_of calls ≡ []
  pub active : is_idle calls ≡ false
  pub asked : IsAsked old.plan v at result

-- ---- closing

-- nothing was claimed, and the turn is over; or this work was
abbrev pub IsClosed : Stage → List Told → Result (Option Work) NoMemory → Type 0
IsClosed at calls (Ok None) = (at ≡ over) × (claims_of calls ≡ [])
IsClosed at calls (Ok (Some work)) = (at ≡ running work) × (before : List Told) × (last : Told) × (calls ≡ before ++ last ∷ []) × (claims_of calls ≡ last ∷ [])
IsClosed at calls (Err _) = Unit {0}

-- the Write and the claim of a turn; at most two calls
pub record Closes (alone : Type 0) (t : Turn) (from : Stage) (old new : Kept) (clock : ClockState) (result : Result (Option Work) NoMemory) : Type 0 where
  pub calls : List Told
  pub at : Stage
  pub part : IsPart alone t from at old new clock clock calls
  pub few : length calls ≤ 2
  pub claimed : length (claims_of calls) ≤ 1
  pub outcomes : outcomes_of calls ≡ []
  pub active : is_idle calls ≡ false
  pub closed : IsClosed at calls result

-- ---- the child

-- its program ran, and its attempt came to this; or it may have run, and there was no memory
abbrev pub Hears : SpawnerState → SpawnerState → Work → Result Outcome NoMemory → Type 0
Hears old new work (Ok outcome) = (k : Child) × (k.work ≡ work) × RunsChild old new k × CameTo k outcome
Hears old new work (Err _) = (new ≡ old) ⊎ ((k : Child) × (k.work ≡ work) × RunsChild old new k)

-- ---- settling

abbrev pub IsSettled : Outcome → Stage → List Told → Result (Unit {0}) NoMemory → Type 0
IsSettled outcome at calls (Ok _) = (at ≡ over) × (outcomes_of calls ≡ outcome ∷ [])
IsSettled outcome at calls (Err _) = (outcomes_of calls ≡ []) ⊎ (outcomes_of calls ≡ outcome ∷ [])

-- the tick behind a child and the end of its attempt; at most two calls
pub record Settles (alone : Type 0) (t : Turn) (work : Work) (outcome : Outcome) (old new : Kept) (clock new_clock : ClockState)
    (result : Result (Unit {0}) NoMemory) : Type 0 where
  pub calls : List Told
  pub at : Stage
  pub part : IsPart alone t (running work) at old new clock new_clock calls
  pub few : length calls ≤ 2
  pub claims : claims_of calls ≡ []
  pub active : is_idle calls ≡ false
  pub settled : IsSettled outcome at calls result

-- a round over a view of this execution and version, all of whose questions were asked, has these moves
pub record IsRoundOf (plan : RunPlan) (v : View) (told : List Told) (exec : List ℕ) (base : ℕ) (moves : List Move) : Type 0 where
  pub of_plan : IsViewOfPlan plan v
  pub exec_is : exec ≡ v.name
  pub base_is : base ≡ v.version
  pub all_asked : next_question plan v told ≡ None
  pub moves_are : moves ≡ round_moves plan v told
