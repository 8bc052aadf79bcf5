-- The two calls that close a round. Private contracts alone cite this file.
use Rattle.std.specs.Prelude.{◌≡◌, ◌≢◌, false, [], ◌∷◌, Option, Some, None, Result, Ok, Err, IfOk}
use Rattle.fly_ports.specs.Clock.{ClockState}
use Rattle.fly_types.specs.declared.memory.NoMemory.{NoMemory}
use Rattle.fly_state.specs.declared.entries.Reply.TheVariants as reply
use Rattle.fly_world.specs.declared.called.Called.{Called}
use Rattle.fly_world.specs.declared.work.Work.{Work}
use Rattle.fly_world.specs.Kept.{Kept}
use Rattle.fly_round.specs.declared.told.Told.{Told}
use Rattle.fly_work.specs.Stages.{Turn, Stage, claiming}
use Rattle.fly_work.specs.Turns.{is_claim, is_idle_reply, outcomes_of}
use Rattle.fly_work.specs.Acting.{IsPart}
use Rattle.fly_work.specs.Parts.{IsClosed}

-- the Write, which claims nothing; where it found its memory a claim comes next
pub record Writes (alone : Type 0) (t : Turn) (from : Stage) (old new : Kept) (clock : ClockState)
    (result : Result (Unit {0}) NoMemory) : Type 0 where
  pub call : Told
  pub at : Stage
  pub part : IsPart alone t from at old new clock clock (call ∷ [])
  pub unclaimed : is_claim call ≡ false
  pub outcomes : outcomes_of (call ∷ []) ≡ []
  pub active : is_idle_reply call.reply ≡ false
  pub written : IfOk result (λ _. at ≡ claiming)

-- the claim, and the work that it gave
pub record Claims (alone : Type 0) (t : Turn) (from : Stage) (old new : Kept) (clock : ClockState)
    (result : Result (Option Work) NoMemory) : Type 0 where
  pub call : Told
  pub at : Stage
  pub part : IsPart alone t from at old new clock clock (call ∷ [])
  pub outcomes : outcomes_of (call ∷ []) ≡ []
  pub active : is_idle_reply call.reply ≡ false
  pub closed : IsClosed at (call ∷ []) result

-- the work of what was claimed, where there was something to claim, and memory
abbrev pub GivesWork : Called → Result (Option Work) NoMemory → Type 0
GivesWork c (Ok None) = c.reply ≡ reply.Nothing
GivesWork c (Ok (Some work)) = c.work ≡ Some work
GivesWork c (Err _) = (c.reply ≢ reply.Nothing) × (c.work ≡ None)
