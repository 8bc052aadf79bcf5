-- What checking the files of a run comes to. Private contracts alone cite this file.
use Rattle.std.specs.Prelude.{◌≡◌, ◌<◌, ℕ, List, [], map, length, Option, Result, Ok, Err, string_bytes}
use Rattle.fly_ports.specs.Files.{Contents, FilesState, FailsToRead}
use Rattle.fly_docs.specs.declared.closure.Closure.{Closure}
use Rattle.fly_docs.specs.declared.submission.Submission.{Submission}
use Rattle.fly_state.specs.Plans.{RunPlan, plan_for}
use Rattle.fly_idl.specs.Rows.{submissions_form}
use Rattle.fly_work.specs.Drives.{IsUncached}
use Rattle.fly_opening.specs.Hashes.{closure_hash}
use Rattle.fly_opening.specs.Lines.{AreRefused}
use Rattle.fly_opening.specs.Submissions.{AreFitted, CanOpen, fitted_submission, submission_faults}
use Rattle.fly_app.specs.declared.accepting.Accepted.{Accepted}
use Rattle.fly_app.specs.declared.reading.Unanswered.{Unanswered}
use Rattle.fly_app.specs.declared.reading.Unanswered.TheVariants.{Refused, Unread, NoMemory}
use Rattle.fly_app.specs.RunWords.{RunRequest}
use Rattle.fly_app.specs.Outside.{IsUnread}
use Rattle.fly_app.specs.Documents.{submissions_word, AreSubmissionsAt, HasDocumentFault}
use Rattle.fly_app.specs.Accepted.{IsAccepted, IsEmptyAt, HasBytesAt}
use Rattle.fly_app.specs.RunRefusals.{HasRunRefusal, IsRunUnread, not_empty_line}

-- ---- submissions

-- submissions that a run of the plan can open with
pub record AreReady (plan : RunPlan) (s fitted : List Submission) : Type 0 where
  pub fits : AreFitted plan s fitted
  pub opens : CanOpen plan fitted
  pub some : 0 < length fitted

-- the submissions as they fit the plan's inputs, or a line for each of their faults
abbrev pub FitsSubmissions : RunPlan → List Submission → Result (List Submission) Unanswered → Type 0
FitsSubmissions plan s (Ok fitted) = AreReady plan s fitted
FitsSubmissions plan s (Err (Refused lines)) = AreRefused plan s (string_bytes lines)
FitsSubmissions plan s (Err (Unread path)) = ⊥
FitsSubmissions plan s (Err NoMemory) = Unit {0}

-- ---- the journal

-- the journal has no bytes; or it has, and the line says so; or the read of it failed
abbrev pub ChecksJournal : FilesState → FilesState → List ℕ → Result (Unit {0}) Unanswered → Type 0
ChecksJournal old new path (Ok _) = IsEmptyAt old.contents path × (new ≡ old)
ChecksJournal old new path (Err (Refused lines)) = HasBytesAt old.contents path
    × (string_bytes lines ≡ not_empty_line) × (new ≡ old)
ChecksJournal old new path (Err (Unread p)) = (p.now ≡ path) × FailsToRead old new
ChecksJournal old new path (Err NoMemory) = new ≡ old

-- ---- the submissions and the journal

-- the submissions of the run's file have no fault for the plan
pub record AreFaultless (contents : Option Contents) (plan : RunPlan) (r : RunRequest)
    (s : List Submission) : Type 0 where
  pub there : AreSubmissionsAt contents r.submissions s
  pub faultless : submission_faults plan s ≡ []

-- the lines for what is found first
pub data RefusesSubmissions (contents : Option Contents) (plan : RunPlan) (r : RunRequest)
    (lines : List ℕ) : Type 0 where
  refused_document : HasDocumentFault submissions_word submissions_form contents r.submissions lines
      → RefusesSubmissions contents plan r lines
  refused_submissions : (s : List Submission) → AreSubmissionsAt contents r.submissions s → AreRefused plan s lines
      → RefusesSubmissions contents plan r lines
  refused_journal : (s : List Submission) → AreFaultless contents plan r s → HasBytesAt contents r.journal
      → lines ≡ not_empty_line
      → RefusesSubmissions contents plan r lines

-- the file that was not read first
pub data MissesSubmissions (old new : FilesState) (plan : RunPlan) (r : RunRequest) (path : List ℕ) : Type 0 where
  missed_submissions : path ≡ r.submissions → IsUnread old new r.submissions → MissesSubmissions old new plan r path
  missed_journal : (s : List Submission) → AreFaultless old.contents plan r s → path ≡ r.journal → FailsToRead old new
      → MissesSubmissions old new plan r path

-- the submissions as they fit the plan, where they and the journal are accepted
abbrev pub AcceptsSubmissions : FilesState → FilesState → RunPlan → RunRequest → Result (List Submission) Unanswered
    → Type 0
AcceptsSubmissions old new plan r (Ok fitted) =
    (s : List Submission) × AreSubmissionsAt old.contents r.submissions s × AreReady plan s fitted
    × IsEmptyAt old.contents r.journal
    × (new ≡ old)
AcceptsSubmissions old new plan r (Err (Refused lines)) = RefusesSubmissions old.contents plan r (string_bytes lines)
    × (new ≡ old)
AcceptsSubmissions old new plan r (Err (Unread p)) = MissesSubmissions old new plan r p.now
AcceptsSubmissions old new plan r (Err NoMemory) = new ≡ old

-- ---- all of it

-- a run of what is accepted can begin
pub record IsReady (a : Accepted) : Type 0 where
  pub uncached : IsUncached a.plan
  pub opens : CanOpen a.plan a.submissions
  pub some : 0 < length a.submissions

-- what is accepted is made of this closure and these submissions
pub record IsMadeOf (c : Closure) (s : List Submission) (a : Accepted) : Type 0 where
  pub plan : a.plan ≡ plan_for c
  pub hash : a.hash ≡ closure_hash c
  pub submissions : a.submissions ≡ map (fitted_submission (plan_for c)) s

-- the run's files are accepted, and leave what it is made of; or are not, for what is found first
abbrev pub Accepts : FilesState → FilesState → RunRequest → Result Accepted Unanswered → Type 0
Accepts old new r (Ok a) = (c : Closure) × (s : List Submission) × IsAccepted old.contents r c s × IsMadeOf c s a
    × IsReady a × (new ≡ old)
Accepts old new r (Err (Refused lines)) = HasRunRefusal old.contents r (string_bytes lines) × (new ≡ old)
Accepts old new r (Err (Unread p)) = IsRunUnread old new r p.now
Accepts old new r (Err NoMemory) = new ≡ old
