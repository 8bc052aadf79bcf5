-- How `run` ends, and which of its answers is due.
use Rattle.std.proofs.Common.{◌≡◌, ◌≢◌, ◌⊎◌, ◌≤◌, ℕ, List, [], ◌∷◌, All, Option, Some, None, Result, Ok, Err, IfOk, MatchResult, String, Global, string_bytes, unwrap_or, subst, refl, sym, ap, ◌∙◌, inl, inr, arith}
use Rattle.std.specs.List.{filter_map}
use Rattle.std.proofs.lemmas.List.Elements.{All-nil, All-cons, All-head, All-tail}
use Rattle.fly_types.specs.declared.memory.NoMemory.{NoMemory}
use Rattle.fly_ports.specs.Faults.{Rises}
use Rattle.fly_ports.specs.Files.{Contents, FilesState, Lacks, FailsToRead}
use Rattle.fly_ports.specs.Sink.{SinkState, Writes, Tries}
use Rattle.fly_docs.specs.declared.closure.Closure.{Closure}
use Rattle.fly_docs.specs.declared.submission.Submission.{Submission}
use Rattle.fly_state.specs.Plans.{plan_for}
use Rattle.fly_world.specs.World.{World}
use Rattle.fly_opening.specs.Submissions.{submission_faults}
use Rattle.fly_app.specs.declared.status.Status.{Status}
use Rattle.fly_app.specs.declared.status.Status.TheVariants as statuses
use Rattle.fly_app.specs.RunWords.{NumberOption, lag, Argument, file, number, IsArgument, number_of, IsGivenOnce, RunRequest, IsRun}
use Rattle.fly_app.specs.Outside.{Outside, outside, IsTold, ReadsAll, WritesAll}
use Rattle.fly_app.specs.Printing.{SaysLine, FailsToSay, no_memory_text}
use Rattle.fly_app.specs.Answers.{Answer, Text, WrongWord, Refusal, Unread, SaysOnly, SaysPart, Prints, FailsToPrint, status_of, EndsWith, IsAnswered, IsUnwritten, LacksMemory}
use Rattle.fly_app.specs.Accepted.{IsAccepted, IsEmptyAt, HasBytesAt}
use Rattle.fly_app.specs.RunRefusals.{HasRunRefusal, bundle_document, bundle_faults, submissions_document, submissions_faults, journal_bytes, IsRunUnread, bundle_unread, submissions_unread, journal_unread, IsRunAbsent, bundle_absent, submissions_absent}
use Rattle.fly_app.specs.RunOutside.{RunOutside, HasNotWorked, AppendsAll}
use Rattle.fly_app.specs.Runs.{RunSetup, HasStatus}
use Rattle.fly_app.specs.RunAnswers.{AsksForNoRun, IsReported, HasRun, HasDoneRun, declined, unwritten, without_memory, began, IsKnown, IsDueForNoRun, IsDueToRun, IsEnd, RunsRun}
use Rattle.fly_app.proofs.CommandLemmas.{said_part}
use Rattle.fly_app.proofs.ContentLemmas.{not_lacking, absent_told, absent_lacks, told_absent, one_closure, not_refused, one_submissions, submissions_not_refused}
use Rattle.fly_app.proofs.RunWordsLemmas.{one_run}

-- ---- how far a worker looks back

given-few : (arguments : List Argument) → All IsArgument arguments
    → All (λ (n : ℕ). n ≤ 16) (filter_map (number_of lag) arguments)
given-few [] each = All-nil (λ (n : ℕ). n ≤ 16)
given-few (file path ∷ more) each = given-few more (All-tail IsArgument (file path) more each)
given-few (number lag n ∷ more) each =
    All-cons (λ (m : ℕ). m ≤ 16) n (filter_map (number_of lag) more) (All-head IsArgument (number lag n) more each).1
    (given-few more (All-tail IsArgument (number lag n) more each))

few-given : (numbers : List ℕ) (n : ℕ) → All (λ (m : ℕ). m ≤ 16) numbers → IsGivenOnce numbers 0 n → n ≤ 16
few-given [] n few is = omega (arith, is)
few-given (m ∷ []) n few is = omega (arith, is, All-head (λ (x : ℕ). x ≤ 16) m [] few)
few-given (m ∷ k ∷ more) n few is = absurd is

pub lag-few : (words : List (List ℕ)) (r : RunRequest) → IsRun words r → r.lag ≤ 16
lag-few words r is = few-given _ r.lag (given-few is.arguments is.each) (is.given.numbered lag)

-- ---- one answer is due

-- an empty file has no bytes
not_empty : (contents : Option Contents) (path : List ℕ) → IsTold contents → IsEmptyAt contents path
    → HasBytesAt contents path → ⊥
not_empty contents path told empty bytes =
    let none : unwrap_or (told.0 path) [] ≡ [] = rw told.1 at empty in
    let some : unwrap_or (told.0 path) [] ≢ [] = rw told.1 at bytes in
    some none

refused_accepted : (contents : Option Contents) (r : RunRequest) (lines : List ℕ) (c : Closure) (s : List Submission)
    → IsTold contents
    → IsAccepted contents r c s → HasRunRefusal contents r lines → ⊥
refused_accepted contents r lines c s told ok (bundle_document fault) =
    not_refused contents r.bundle lines c told ok.documents.bundle (inl fault)
refused_accepted contents r lines c s told ok (bundle_faults faults) =
    not_refused contents r.bundle lines c told ok.documents.bundle (inr faults)
refused_accepted contents r lines c s told ok (submissions_document d at fault) =
    submissions_not_refused _ contents r.submissions lines s told ok.documents.submitted fault
refused_accepted contents r lines c s told ok (submissions_faults d t at there faulty says) =
    let closures = one_closure contents r.bundle d c told at ok.documents.bundle in
    let lists = one_submissions contents r.submissions t s told there ok.documents.submitted in
    faulty (ap (λ (x : Closure). submission_faults (plan_for x) t) closures ∙ ap (submission_faults (plan_for c))
    lists ∙ ok.documents.faultless)
refused_accepted contents r lines c s told ok (journal_bytes d t documents bytes says) =
    not_empty contents r.journal told ok.new_journal bytes

accepted_absent : (contents : Option Contents) (r : RunRequest) (path : List ℕ) (c : Closure) (s : List Submission)
    → IsRunAbsent contents r path
    → IsAccepted contents r c s → ⊥
accepted_absent contents r path c s (bundle_absent is absent) ok =
    absent_lacks contents r.bundle ok.documents.bundle.file absent ok.documents.bundle.content
accepted_absent contents r path c s (submissions_absent d at is absent) ok =
    absent_lacks contents r.submissions ok.documents.submitted.file absent ok.documents.submitted.content

refused_absent : (contents : Option Contents) (r : RunRequest) (path lines : List ℕ) → IsRunAbsent contents r path
    → HasRunRefusal contents r lines → ⊥
refused_absent contents r path lines (bundle_absent is absent)
    (bundle_document fault) = absent_lacks contents r.bundle fault.file absent fault.content
refused_absent contents r path lines (bundle_absent is absent)
    (bundle_faults faults) = absent_lacks contents r.bundle faults.file absent faults.content
refused_absent contents r path lines (bundle_absent is absent)
    (submissions_document d at fault) = absent_lacks contents r.bundle at.file absent at.content
refused_absent contents r path lines (bundle_absent is absent) (submissions_faults d t at there faulty says) =
    absent_lacks contents r.bundle at.file absent at.content
refused_absent contents r path lines (bundle_absent is absent) (journal_bytes d t documents bytes says) =
    absent_lacks contents r.bundle documents.bundle.file absent documents.bundle.content
refused_absent contents r path lines (submissions_absent c there is absent) (bundle_document fault) =
    not_refused contents r.bundle lines c (absent_told contents r.submissions absent) there (inl fault)
refused_absent contents r path lines (submissions_absent c there is absent) (bundle_faults faults) =
    not_refused contents r.bundle lines c (absent_told contents r.submissions absent) there (inr faults)
refused_absent contents r path lines (submissions_absent c there is absent) (submissions_document d at fault) =
    absent_lacks contents r.submissions fault.file absent fault.content
refused_absent contents r path lines (submissions_absent c there is absent)
    (submissions_faults d t at given faulty says) =
    absent_lacks contents r.submissions given.file absent given.content
refused_absent contents r path lines (submissions_absent c there is absent) (journal_bytes d t documents bytes says) =
    absent_lacks contents r.submissions documents.submitted.file absent documents.submitted.content

-- where no read failed, a file that was not read is absent
unread_absent : (old new : FilesState) (r : RunRequest) (path : List ℕ) → IsKnown old new → IsRunUnread old new r path
    → IsRunAbsent old.contents r path
unread_absent old new r path known (bundle_unread is (inl fails)) = absurd (known.1 fails.read_faults)
unread_absent old new r path known (bundle_unread is (inr lacks)) = bundle_absent is
    (told_absent old.contents r.bundle known.0 lacks.1)
unread_absent old new r path known (submissions_unread c at is (inl fails)) = absurd (known.1 fails.read_faults)
unread_absent old new r path known (submissions_unread c at is (inr lacks)) =
    submissions_absent c at is (told_absent old.contents r.submissions known.0 lacks.1)
unread_absent old new r path known (journal_unread c s documents is fails) = absurd (known.1 fails.read_faults)

-- what was said is of the kind that is due
said_due : (words : List (List ℕ)) (old new : FilesState) (due a : Answer) → IsDueForNoRun words old new due
    → AsksForNoRun words old new a
    → status_of a ≡ status_of due
said_due words old new (Text t) a due asked = absurd due
said_due words old new due (Text t) is asked = absurd asked
said_due words old new (WrongWord n) (WrongWord k) due asked = refl
said_due words old new (WrongWord n) (Refusal lines) due asked = absurd (due.whole (asked.0, asked.1))
said_due words old new (WrongWord n) (Unread path) due asked = absurd (due.whole (asked.0, asked.1))
said_due words old new (Refusal l) (WrongWord k) due asked = absurd (asked.0.whole (due.0, due.1))
said_due words old new (Refusal l) (Refusal lines) due asked = refl
said_due words old new (Refusal l) (Unread path) due asked =
    let same = one_run words asked.0 due.0 asked.1 due.1 in
    let unread = subst (λ (r : RunRequest). IsRunUnread old new r path) same asked.2 in
    absurd (refused_absent old.contents due.0 path l (unread_absent old new due.0 path due.2 unread) due.3)
said_due words old new (Unread p) (WrongWord k) due asked = absurd (asked.0.whole (due.0, due.1))
said_due words old new (Unread p) (Refusal lines) due asked =
    let same = one_run words asked.0 due.0 asked.1 due.1 in
    absurd (refused_absent old.contents due.0 p lines due.2 (subst (λ (r : RunRequest). HasRunRefusal old.contents r
    lines) same asked.2))
said_due words old new (Unread p) (Unread path) due asked = refl

-- where the run begins, nothing else is due
begun_due : (words : List (List ℕ)) (old new : FilesState) (a : Answer) (r : RunRequest) (c : Closure)
    (s : List Submission) → IsDueForNoRun words old new a
    → IsRun words r → IsAccepted old.contents r c s → ⊥
begun_due words old new (Text t) r c s due asked ok = due
begun_due words old new (WrongWord k) r c s due asked ok = due.whole (r, asked)
begun_due words old new (Refusal lines) r c s due asked ok =
    let same = one_run words r due.0 asked due.1 in
    refused_accepted old.contents due.0 lines c s due.2.0
    (subst (λ (q : RunRequest). IsAccepted old.contents q c s) same ok) due.3
begun_due words old new (Unread path) r c s due asked ok =
    let same = one_run words r due.0 asked due.1 in
    accepted_absent old.contents due.0 path c s due.2
    (subst (λ (q : RunRequest). IsAccepted old.contents q c s) same ok)

-- where the run is due, nothing was said in its place
said_none : (words : List (List ℕ)) (old new : FilesState) (a : Answer) → (due : IsDueToRun words old new)
    → AsksForNoRun words old new a → ⊥
said_none words old new (Text t) due asked = asked
said_none words old new (WrongWord k) due asked = asked.0.whole (due.request, due.asked)
said_none words old new (Refusal lines) due asked =
    let same = one_run words asked.0 due.request asked.1 due.asked in
    refused_accepted old.contents due.request lines due.closure due.submissions due.known.0 due.accepted
    (subst (λ (r : RunRequest). HasRunRefusal old.contents r lines) same asked.2)
said_none words old new (Unread path) due asked =
    let same = one_run words asked.0 due.request asked.1 due.asked in
    let unread = subst (λ (r : RunRequest). IsRunUnread old new r path) same asked.2 in
    accepted_absent old.contents due.request path due.closure due.submissions
    (unread_absent old new due.request path due.known unread) due.accepted

-- ---- ends

-- a status of a store is that of a run to its end
end_of_store : (w : World) (status : Status) → HasStatus w status → IsEnd status
end_of_store w statuses.Done has = inl refl
end_of_store w statuses.Failed has = inr refl
end_of_store w _ has = absurd has

run_ends : (run : RunSetup) (before after : RunOutside) (status : Status) → HasRun run before after status
    → IsEnd status ⊎ (status ≡ statuses.WriteFault) ⊎ (status ≡ statuses.NoMemory)
run_ends run before after status (inl reported) = inl (end_of_store reported.store status reported.ends)
run_ends run before after status (inr (inl unreported)) = inr (inl unreported.ends)
run_ends run before after status (inr (inr (inl unkept))) = inr (inl unkept.ends)
run_ends run before after status (inr (inr (inr short))) = inr (inr short.ends)

run_finishes : (run : RunSetup) (before after : RunOutside) (status : Status) → HasRun run before after status
    → WritesAll before.outside.out after.outside.out
    → AppendsAll before.outside.files after.outside.files → IsEnd status ⊎ (status ≡ statuses.NoMemory)
run_finishes run before after status (inl reported) out files = inl (end_of_store reported.store status reported.ends)
run_finishes run before after status (inr (inl unreported)) out files = absurd (out unreported.out.faults)
run_finishes run before after status (inr (inr (inl unkept))) out files = absurd (files unkept.fails)
run_finishes run before after status (inr (inr (inr short))) out files = inr short.ends

module _ (words : List (List ℕ)) (before after : RunOutside) (status : Status) where
  abbrev old : FilesState
  old = before.outside.files

  abbrev new : FilesState
  new = after.outside.files

  due_given : HasDoneRun words before after status → (a : Answer) → IsDueForNoRun words old new a
      → EndsWith (status_of a) status
  due_given (declined answered idle) a due = inl
      (answered.ends ∙ said_due words old new a answered.answer due answered.asked)
  due_given (unwritten answered idle) a due = inr (inl answered.ends)
  due_given (without_memory none idle) a due = inr (inr none.ends)
  due_given (began r c s asked ok has) a due = absurd (begun_due words old new a r c s due asked ok)

  due_printed : HasDoneRun words before after status → (a : Answer) → IsDueForNoRun words old new a
      → WritesAll before.outside.err after.outside.err
      → (status ≡ status_of a) ⊎ (status ≡ statuses.NoMemory)
  due_printed (declined answered idle) a due err = inl
      (answered.ends ∙ said_due words old new a answered.answer due answered.asked)
  due_printed (unwritten answered idle) a due err = absurd (not_said answered.answer answered.asked answered.printed)
    where
      not_said : (b : Answer) → AsksForNoRun words old new b → FailsToPrint before.outside after.outside b → ⊥
      not_said (Text t) none fails = none
      not_said (WrongWord k) none fails = err (said_part before.outside after.outside _ fails)
      not_said (Refusal lines) none fails = err (said_part before.outside after.outside _ fails)
      not_said (Unread path) none fails = err (said_part before.outside after.outside _ fails)
  due_printed (without_memory none idle) a due err = inr none.ends
  due_printed (began r c s asked ok has) a due err = absurd (begun_due words old new a r c s due asked ok)

  due_started : HasDoneRun words before after status → IsDueToRun words old new
      → IsEnd status ⊎ (status ≡ statuses.WriteFault) ⊎ (status ≡ statuses.NoMemory)
  due_started (declined answered idle) due = absurd (said_none words old new answered.answer due answered.asked)
  due_started (unwritten answered idle) due = absurd (said_none words old new answered.answer due answered.asked)
  due_started (without_memory none idle) due = inr (inr none.ends)
  due_started (began r c s asked ok has) due = run_ends _ before after status has

  due_finished : HasDoneRun words before after status → IsDueToRun words old new
      → WritesAll before.outside.out after.outside.out
      → WritesAll before.outside.err after.outside.err → AppendsAll old new
      → IsEnd status ⊎ (status ≡ statuses.NoMemory)
  due_finished (declined answered idle) due out err files = absurd
      (said_none words old new answered.answer due answered.asked)
  due_finished (unwritten answered idle) due out err files = absurd
      (said_none words old new answered.answer due answered.asked)
  due_finished (without_memory none idle) due out err files = inr none.ends
  due_finished (began r c s asked ok has) due out err files = run_finishes _ before after status has out files

  pub runs_run : HasDoneRun words before after status → RunsRun words before after status
  runs_run done = record {
    done = done;
    due = due_given done;
    complete = due_printed done;
    starts = due_started done;
    finishes = due_finished done;
  }
