-- Why a run does not begin. The files are checked in this order: the bundle, the submissions, the journal.
use Rattle.std.specs.Prelude.{◌≡◌, ◌≢◌, ℕ, List, [], ◌++◌, Option, codes}
use Rattle.fly_ports.specs.Files.{Contents, FilesState, FailsToRead}
use Rattle.fly_docs.specs.declared.closure.Closure.{Closure}
use Rattle.fly_docs.specs.declared.submission.Submission.{Submission}
use Rattle.fly_state.specs.Plans.{plan_for}
use Rattle.fly_idl.specs.Rows.{bundle_form, submissions_form}
use Rattle.fly_opening.specs.Submissions.{submission_faults}
use Rattle.fly_opening.specs.Lines.{submission_lines}
use Rattle.fly_app.specs.RunWords.{RunRequest}
use Rattle.fly_app.specs.Outside.{IsUnread, IsAbsent}
use Rattle.fly_app.specs.Printing.{newline}
use Rattle.fly_app.specs.Documents.{bundle_word, submissions_word, IsClosureAt, AreSubmissionsAt, HasDocumentFault, HasBundleFaults}
use Rattle.fly_app.specs.Accepted.{AreDocuments, HasBytesAt}

-- the line for a journal that has bytes
abbrev pub not_empty_line : List ℕ
not_empty_line = codes "journal: NotEmpty /" ++ newline

-- these lines say what the first check that fails has found
pub data HasRunRefusal (contents : Option Contents) (r : RunRequest) (lines : List ℕ) : Type 0 where
  bundle_document : HasDocumentFault bundle_word bundle_form contents r.bundle lines → HasRunRefusal contents r lines
  bundle_faults : HasBundleFaults contents r.bundle lines → HasRunRefusal contents r lines
  submissions_document : (c : Closure) → IsClosureAt contents r.bundle c
      → HasDocumentFault submissions_word submissions_form contents r.submissions lines → HasRunRefusal contents r lines
  submissions_faults : (c : Closure) (s : List Submission) → IsClosureAt contents r.bundle c
      → AreSubmissionsAt contents r.submissions s
      → submission_faults (plan_for c) s ≢ [] → lines ≡ submission_lines (submission_faults (plan_for c) s)
      → HasRunRefusal contents r lines
  journal_bytes : (c : Closure) (s : List Submission) → AreDocuments contents r c s → HasBytesAt contents r.journal
      → lines ≡ not_empty_line
      → HasRunRefusal contents r lines

-- the file at this path is the first that was not read; a journal that is absent is empty
pub data IsRunUnread (old new : FilesState) (r : RunRequest) (path : List ℕ) : Type 0 where
  bundle_unread : path ≡ r.bundle → IsUnread old new r.bundle → IsRunUnread old new r path
  submissions_unread : (c : Closure) → IsClosureAt old.contents r.bundle c → path ≡ r.submissions
      → IsUnread old new r.submissions
      → IsRunUnread old new r path
  journal_unread : (c : Closure) (s : List Submission) → AreDocuments old.contents r c s → path ≡ r.journal
      → FailsToRead old new
      → IsRunUnread old new r path

-- where contents are told, there is no file at this path, and it is the first that must be there and is not
pub data IsRunAbsent (contents : Option Contents) (r : RunRequest) (path : List ℕ) : Type 0 where
  bundle_absent : path ≡ r.bundle → IsAbsent contents r.bundle → IsRunAbsent contents r path
  submissions_absent : (c : Closure) → IsClosureAt contents r.bundle c → path ≡ r.submissions
      → IsAbsent contents r.submissions
      → IsRunAbsent contents r path
