-- What `run` answers, and what it leaves.
use Rattle.std.specs.Prelude.{◌≡◌, ◌⊎◌, ℕ, List, ◌∷◌}
use Rattle.fly_ports.specs.Clock.{ClockState}
use Rattle.fly_ports.specs.Files.{FilesState}
use Rattle.fly_ports.specs.Sink.{Writes, FailsToWrite, Tries}
use Rattle.fly_ports.specs.Spawner.{SpawnerState}
use Rattle.fly_docs.specs.declared.closure.Closure.{Closure}
use Rattle.fly_docs.specs.declared.submission.Submission.{Submission}
use Rattle.fly_world.specs.World.{World}
use Rattle.fly_report.specs.Report.{report_text}
use Rattle.fly_app.specs.declared.status.Status.{Status}
use Rattle.fly_app.specs.declared.status.Status.TheVariants as statuses
use Rattle.fly_app.specs.Words.{IsFirstWrong}
use Rattle.fly_app.specs.RunWords.{RunRequest, IsRun, IsRunCommand}
use Rattle.fly_app.specs.Outside.{Outside, IsTold, ReadsAll, WritesAll}
use Rattle.fly_app.specs.Printing.{unwritten_text, no_memory_text}
use Rattle.fly_app.specs.Answers.{Answer, Text, WrongWord, Refusal, Unread, status_of, IsAnswered, IsUnwritten, LacksMemory, EndsWith}
use Rattle.fly_app.specs.Accepted.{IsAccepted}
use Rattle.fly_app.specs.RunRefusals.{HasRunRefusal, IsRunUnread, IsRunAbsent}
use Rattle.fly_app.specs.RunOutside.{RunOutside, run_outside, work_of, HasNotWorked, FailsAppend, AppendsAll}
use Rattle.fly_app.specs.Runs.{RunSetup, setup_of, HasStatus, IsFinished, IsBrokenOff}

-- ---- runs that don't begin

-- the words ask for a run that does not begin, for what this answer says; the old files are left as the new
abbrev pub AsksForNoRun : List (List ℕ) → FilesState → FilesState → Answer → Type 0
AsksForNoRun words old new (Text text) = ⊥
AsksForNoRun words old new (WrongWord k) = IsFirstWrong IsRunCommand words k × (new ≡ old)
AsksForNoRun words old new (Refusal lines) = (r : RunRequest) × IsRun words r × HasRunRefusal old.contents r lines
    × (new ≡ old)
AsksForNoRun words old new (Unread path) = (r : RunRequest) × IsRun words r × IsRunUnread old new r path

-- ---- runs that begin

-- the run was driven to its end, and all that was printed is its report
pub record IsReported (run : RunSetup) (before after : RunOutside) (status : Status) : Type 0 where
  pub store : World
  pub finished : IsFinished run (work_of before) (work_of after) store
  pub out : Writes before.outside.out after.outside.out (report_text run.plan store)
  pub err : after.outside.err ≡ before.outside.err
  pub ends : HasStatus store status

-- the run was driven to its end, and its report could not be written
pub record IsUnreported (run : RunSetup) (before after : RunOutside) (status : Status) : Type 0 where
  pub store : World
  pub finished : IsFinished run (work_of before) (work_of after) store
  pub out : FailsToWrite before.outside.out after.outside.out (report_text run.plan store)
  pub err : Tries before.outside.err after.outside.err unwritten_text
  pub ends : status ≡ statuses.WriteFault

-- the run broke off, because its journal could not be kept
pub record IsUnkept (run : RunSetup) (before after : RunOutside) (status : Status) : Type 0 where
  pub store : World
  pub broken : IsBrokenOff run (work_of before) (work_of after) store
  pub fails : FailsAppend before.outside.files after.outside.files
  pub out : after.outside.out ≡ before.outside.out
  pub err : Tries before.outside.err after.outside.err unwritten_text
  pub ends : status ≡ statuses.WriteFault

-- the run broke off, or was driven to its end and not reported, for want of memory
pub record IsShort (run : RunSetup) (before after : RunOutside) (status : Status) : Type 0 where
  pub store : World
  pub made : IsBrokenOff run (work_of before) (work_of after) store
      ⊎ IsFinished run (work_of before) (work_of after) store
  pub out : after.outside.out ≡ before.outside.out
  pub err : Tries before.outside.err after.outside.err no_memory_text
  pub ends : status ≡ statuses.NoMemory

abbrev pub HasRun : RunSetup → RunOutside → RunOutside → Status → Type 0
HasRun run before after status =
    IsReported run before after status ⊎ IsUnreported run before after status
    ⊎ IsUnkept run before after status ⊎ IsShort run before after status

-- ---- what `run` has done

-- it did not begin, and said why, or couldn't; or it found no memory before it began; or its files were accepted, and
-- it ran
pub data HasDoneRun (words : List (List ℕ)) (before after : RunOutside) (status : Status) : Type 0 where
  declined : IsAnswered (AsksForNoRun words) before.outside after.outside status → HasNotWorked before after
      → HasDoneRun words before after status
  unwritten : IsUnwritten (AsksForNoRun words) before.outside after.outside status → HasNotWorked before after
      → HasDoneRun words before after status
  without_memory : LacksMemory before.outside after.outside status → HasNotWorked before after
      → HasDoneRun words before after status
  began : (r : RunRequest) (c : Closure) (s : List Submission) → IsRun words r
      → IsAccepted before.outside.files.contents r c s
      → HasRun (setup_of r c s) before after status → HasDoneRun words before after status

-- ---- which answer is due

-- what the files hold is told, and no read failed
abbrev pub IsKnown : FilesState → FilesState → Type 0
IsKnown old new = IsTold old.contents × ReadsAll old new

-- the run that the words ask for does not begin, and this is to be said
abbrev pub IsDueForNoRun : List (List ℕ) → FilesState → FilesState → Answer → Type 0
IsDueForNoRun words old new (Text text) = ⊥
IsDueForNoRun words old new (WrongWord k) = IsFirstWrong IsRunCommand words k
IsDueForNoRun words old new (Refusal lines) = (r : RunRequest) × IsRun words r × IsKnown old new
    × HasRunRefusal old.contents r lines
IsDueForNoRun words old new (Unread path) = (r : RunRequest) × IsRun words r × IsRunAbsent old.contents r path

-- the files are known, and are accepted for the run that the words ask for
pub record IsDueToRun (words : List (List ℕ)) (old new : FilesState) : Type 0 where
  pub request : RunRequest
  pub asked : IsRun words request
  pub known : IsKnown old new
  pub closure : Closure
  pub submissions : List Submission
  pub accepted : IsAccepted old.contents request closure submissions

-- the run was driven to its end
abbrev pub IsEnd : Status → Type 0
IsEnd status = (status ≡ statuses.Done) ⊎ (status ≡ statuses.Failed)

-- Whatever `run` does: what it has done; that it says why it does not begin where that is due, or runs to the end
-- where it is due to run, or can't write, or finds no memory; and which of these it does where no write of a stream
-- and no append failed.
pub record RunsRun (words : List (List ℕ)) (before after : RunOutside) (status : Status) : Type 0 where
  pub done : HasDoneRun words before after status
  pub due : (a : Answer) → IsDueForNoRun words before.outside.files after.outside.files a
      → EndsWith (status_of a) status
  pub complete : (a : Answer) → IsDueForNoRun words before.outside.files after.outside.files a
      → WritesAll before.outside.err after.outside.err
      → (status ≡ status_of a) ⊎ (status ≡ statuses.NoMemory)
  pub starts : IsDueToRun words before.outside.files after.outside.files
      → IsEnd status ⊎ (status ≡ statuses.WriteFault) ⊎ (status ≡ statuses.NoMemory)
  pub finishes : IsDueToRun words before.outside.files after.outside.files
      → WritesAll before.outside.out after.outside.out → WritesAll before.outside.err after.outside.err
      → AppendsAll before.outside.files after.outside.files → IsEnd status ⊎ (status ≡ statuses.NoMemory)

-- The first hand of the crew made the run, and the others did nothing.
pub record RunsByFirst {H : Type 0} (clock : H → ClockState) (spawner : H → SpawnerState) (words : List (List ℕ))
    (before after : Outside)
    (crew new_crew : List H) (status : Status) : Type 0 where
  pub first : H
  pub next : H
  pub others : List H
  pub crew_is : crew ≡ first ∷ others
  pub new_crew_is : new_crew ≡ next ∷ others
  pub runs : RunsRun words (run_outside before (clock first) (spawner first))
      (run_outside after (clock next) (spawner next)) status
