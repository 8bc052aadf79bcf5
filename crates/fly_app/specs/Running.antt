-- What running an accepted request comes to. Private contracts alone cite this file.
use Rattle.std.specs.Prelude.{◌≡◌, ◌⊎◌, ℕ, true, List, length, Result, Ok, Err}
use Rattle.fly_ports.specs.Faults.{Rises}
use Rattle.fly_ports.specs.Sink.{SinkState, Writes, FailsToWrite, Tries}
use Rattle.fly_docs.specs.declared.submission.Submission.{Submission}
use Rattle.fly_state.specs.Plans.{RunPlan}
use Rattle.fly_world.specs.Journals.{IsHistory}
use Rattle.fly_world.specs.Kept.{Kept, IsLegal}
use Rattle.fly_world.specs.Versions.{IsWorldOfPlan}
use Rattle.fly_world.specs.World.{World, are_all_over}
use Rattle.fly_history.specs.Laws.{IsPlainlyEvaluated}
use Rattle.fly_round.specs.declared.told.Told.{Told}
use Rattle.fly_work.specs.declared.driving.DriveFault.{DriveFault}
use Rattle.fly_work.specs.declared.driving.DriveFault.TheVariants as fault
use Rattle.fly_work.specs.Children.{Child, RunAll}
use Rattle.fly_work.specs.Turns.{GivesAll, ticks_of, claims_of}
use Rattle.fly_work.specs.Playing.{AddsCalls, HasChildren}
use Rattle.fly_work.specs.Drives.{AreTurns, EndsIdle, turn_numbered}
use Rattle.fly_keeper.specs.Gains.{GainsAll, GainsBefore, calls_text}
use Rattle.fly_report.specs.Report.{report_text}
use Rattle.fly_app.specs.declared.status.Status.{Status}
use Rattle.fly_app.specs.declared.status.Status.TheVariants as statuses
use Rattle.fly_app.specs.declared.accepting.Accepted.{Accepted}
use Rattle.fly_app.specs.RunWords.{RunRequest}
use Rattle.fly_app.specs.Printing.{unwritten_text, no_memory_text}
use Rattle.fly_app.specs.Answers.{LacksMemory}
use Rattle.fly_app.specs.RunAnswers.{HasRun}
use Rattle.fly_app.specs.RunOutside.{RunOutside, WorkOutside, FailsAppend, HasNotWorked}
use Rattle.fly_app.specs.Runs.{RunSetup, HasLegalFronts, HasSingleFronts, HasRounds, KeepsFinalSlots, HasStatus, IsFinished, IsBrokenOff, calls_of}

-- ---- driving a store whose journal is kept in a file

-- every execution is over, each claim ran its child, the last turn found that, and the file got the lines of all calls
pub record IsDriven (plan : RunPlan) (lag : ℕ) (path : List ℕ) (store new_store : Kept) (before after : WorkOutside)
    (turns : List (List Told))
    (children : List Child) : Type 0 where
  pub over : are_all_over new_store.world ≡ true
  pub ran : length children ≡ length (claims_of (calls_of turns))
  pub idle : EndsIdle store.plan store.closure new_store.world.entries
      (turn_numbered (length store.world.executions) lag) 0 turns
  pub kept : GainsAll before.files after.files path (calls_text plan 0 (calls_of turns))

-- by the answer: it was driven to its end, or a keeping failed, or there was no memory
abbrev pub EndsSo : WorkOutside → WorkOutside → Type 0 → Result (Unit {0}) DriveFault → Type 0
EndsSo before after driven (Ok _) = driven
EndsSo before after driven (Err fault.Keep) = FailsAppend before.files after.files
EndsSo before after driven (Err fault.NoMemory) = Unit {0}

-- The turns of one worker, looking back at most so many versions, and what was kept of them at this path, in lines of
-- the plan.
pub record DrivesFile (plan : RunPlan) (lag : ℕ) (path : List ℕ) (store new_store : Kept) (before after : WorkOutside)
    (result : Result (Unit {0}) DriveFault) : Type 0 where
  pub legal : IsLegal new_store
  pub turns : List (List Told)
  pub entries : AddsCalls store new_store 0 (calls_of turns)
  pub are_turns : AreTurns store.plan store.closure new_store.world.entries
      (turn_numbered (length store.world.executions) lag) 0 turns
  pub ticks : GivesAll before.clock after.clock (ticks_of (calls_of turns))
  pub children : List Child
  pub runs : RunAll before.spawner after.spawner children
  pub claimed : HasChildren store.plan store.closure new_store.world.entries (calls_of turns) children
  pub gains : GainsBefore plan path 0 (calls_of turns) (length children) before.files after.files
  pub ended : EndsSo before after (IsDriven plan lag path store new_store before after turns children) result

-- ---- what the laws of the store say of a run

pub record HasLaws (plan : RunPlan) (hash : List ℕ) (w : World) : Type 0 where
  pub fronts : HasLegalFronts plan hash w
  pub rounds : HasRounds plan hash w
  pub single : HasSingleFronts hash w.entries
  pub typed : IsWorldOfPlan plan w
  pub evaluated : IsPlainlyEvaluated plan w.entries w
  pub final : KeepsFinalSlots plan hash w

-- of each run of the plan
abbrev pub RunsHaveLaws : RunPlan → Type 0
RunsHaveLaws plan = (hash : List ℕ) (w : World) → IsHistory plan hash w.entries w → HasLaws plan hash w

-- ---- running

-- a run's setup by its parts
abbrev pub setup_with : RunPlan → List ℕ → List Submission → ℕ → List ℕ → RunSetup
setup_with plan hash submissions lag journal =
    record { plan = plan; hash = hash; submissions = submissions; lag = lag; journal = journal }

-- the setup of a run of what was accepted for a request
abbrev pub setup_for : Accepted → RunRequest → RunSetup
setup_for a r = setup_with a.plan a.hash a.submissions r.lag r.journal

-- a run of it broke off
abbrev pub BreaksOff : RunSetup → WorkOutside → WorkOutside → Type 0
BreaksOff run before after = (w : World) × IsBrokenOff run before after w

-- it broke off because a keeping failed; or there was no memory, be it before anything was done
abbrev pub StopsRun : RunSetup → WorkOutside → WorkOutside → DriveFault → Type 0
StopsRun run before after fault.Keep = BreaksOff run before after × FailsAppend before.files after.files
StopsRun run before after fault.NoMemory = (after ≡ before) ⊎ BreaksOff run before after

-- ---- the report

-- the report was printed, and the status is that of the store; or it could not be written; or there was no memory for
-- it
abbrev pub PrintsReport : RunPlan → World → SinkState → SinkState → SinkState → SinkState → Status → Type 0
PrintsReport plan w out new_out err new_err status =
    HasStatus w status × Writes out new_out (report_text plan w) × (new_err ≡ err)
    ⊎ (status ≡ statuses.WriteFault) × FailsToWrite out new_out (report_text plan w) × Tries err new_err unwritten_text
    ⊎ (status ≡ statuses.NoMemory) × (new_out ≡ out) × Tries err new_err no_memory_text

-- ---- all of it

-- what was accepted was run; or there was no memory before that began
abbrev pub RunsAccepted : RunSetup → RunOutside → RunOutside → Status → Type 0
RunsAccepted run before after status =
    HasRun run before after status ⊎ LacksMemory before.outside after.outside status × HasNotWorked before after
