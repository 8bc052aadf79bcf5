-- One question of a round, asked of a store. Private contracts alone cite this file.
use Rattle.std.specs.Prelude.{◌≡◌, ℕ, false, [], ◌∷◌, Result, Ok, Err}
use Rattle.fly_ports.specs.Clock.{ClockState}
use Rattle.fly_types.specs.declared.memory.NoMemory.{NoMemory}
use Rattle.fly_world.specs.Kept.{Kept}
use Rattle.fly_round.specs.declared.told.Told.{Told}
use Rattle.fly_round.specs.Rounds.{RoundState, with_answer}
use Rattle.fly_work.specs.Stages.{Turn, Stage, asking}
use Rattle.fly_work.specs.Turns.{is_idle, claims_of, outcomes_of}
use Rattle.fly_work.specs.Acting.{IsPart}

-- the round was told the reply of the call, and the turn goes on asking; or there was no memory
abbrev pub IsTold : RoundState → RoundState → Told → Stage → Result (Unit {0}) NoMemory → Type 0
IsTold old new call at (Ok _) = (new ≡ with_answer old call.op call.place call.reply) × (at ≡ asking old.view new.told)
IsTold old new call at (Err _) = Unit {0}

-- The question that waited was asked by one call of a worker.
pub record AsksOne (alone : Type 0) (worker : ℕ) (round new_round : RoundState) (old new : Kept)
    (result : Result (Unit {0}) NoMemory) : Type 0 where
  pub call : Told
  pub at : Stage
  pub part : (t : Turn) (clock : ClockState) → t.worker ≡ worker
      → IsPart alone t (asking round.view round.told) at old new clock clock (call ∷ [])
  pub claims : claims_of (call ∷ []) ≡ []
  pub outcomes : outcomes_of (call ∷ []) ≡ []
  pub active : is_idle (call ∷ []) ≡ false
  pub told : IsTold round new_round call at result
