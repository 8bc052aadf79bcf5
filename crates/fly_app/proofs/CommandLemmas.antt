-- How commands end.
use Rattle.std.proofs.Common.{◌≡◌, ◌⊎◌, ℕ, decimal, List, Option, Some, None, Result, Ok, Err, IfOk, MatchResult, String, Global, string_bytes, subst, refl, sym, ap, ◌∙◌, inl, inr, arith}
use Rattle.std.proofs.lemmas.Fmt.{decimal_injective}
use Rattle.fly_types.specs.declared.memory.NoMemory.{NoMemory}
use Rattle.fly_ports.specs.Faults.{Rises}
use Rattle.fly_ports.specs.Files.{Contents, FilesState, Lacks, FailsToRead}
use Rattle.fly_ports.specs.Sink.{SinkState, Writes, FailsToWrite, Tries}
use Rattle.fly_app.specs.declared.status.Status.{Status}
use Rattle.fly_app.specs.declared.status.Status.TheVariants as statuses
use Rattle.fly_app.specs.Words.{Request, compile, make, help, version, IsRequest}
use Rattle.fly_app.specs.Outside.{outside, Outside, IsContent, IsTold, IsAbsent, IsUnread, WritesAll}
use Rattle.fly_app.specs.Printing.{PrintsText, SaysLine, FailsToSay, no_memory_text}
use Rattle.fly_app.specs.declared.reading.Unanswered.{Unanswered}
use Rattle.fly_app.specs.declared.reading.Unanswered.TheVariants as unanswered
use Rattle.fly_app.specs.Compiling.{CompilesFile}
use Rattle.fly_app.proofs.ContentLemmas.{not_lacking, absent_told, absent_lacks, not_refused}
use Rattle.fly_app.specs.Answers.{HasClosure, Answer, Text, WrongWord, Refusal, Unread, HasText, HasRefusal, Wants, Asks, status_of, SaysOnly, SaysPart, Prints, FailsToPrint, HasDone, IsAnswered, IsUnwritten, LacksMemory, IsKnown, IsDue, EndsWith, RunsCommand}

-- ---- what a run of a command has done

-- whatever is asked for, the files stay, or a read failed
files_kept : (words : List (List ℕ)) (old new : FilesState) (a : Answer) → Asks words old new a → (new ≡ old) ⊎ FailsToRead old new
files_kept words old new (Text text) asked = inl asked.3
files_kept words old new (WrongWord k) asked = inl asked.1
files_kept words old new (Refusal lines) asked = inl asked.3
files_kept words old new (Unread path) (r, is, wants, inl fails) = inr fails
files_kept words old new (Unread path) (r, is, wants, inr lacks) = inl lacks.0

-- it said an answer that was asked for, or could not, or found no memory
abbrev pub Says : (FilesState → FilesState → Answer → Type 0) → Outside → Outside → Status → Type 0
Says asks before after status = IsAnswered asks before after status ⊎ IsUnwritten asks before after status ⊎ LacksMemory before after status

-- lines were said for an answer that has some
pub said_line : (asks : FilesState → FilesState → Answer → Type 0) (old new : FilesState) (out err new_err : SinkState) (a : Answer) (text : List ℕ)
    (line : Result (String Global) NoMemory) (status : Status) → asks old new a → ((new ≡ old) ⊎ FailsToRead old new)
    → (SaysOnly (outside old out err) (outside new out new_err) text → Prints (outside old out err) (outside new out new_err) a)
    → (SaysPart (outside old out err) (outside new out new_err) text → FailsToPrint (outside old out err) (outside new out new_err) a)
    → IfOk line (λ l. string_bytes l ≡ text)
    → MatchResult line (λ l. SaysLine err new_err (string_bytes l) (status_of a) status) (λ e. (status ≡ statuses.NoMemory) × Tries err new_err no_memory_text)
    → Says asks (outside old out err) (outside new out new_err) status
said_line asks old new out err new_err a text (Ok l) status asked kept prints fails is (inl said) =
    inl (record { answer = a; asked = asked; printed = prints (refl, subst (λ (t : List ℕ). Writes err new_err t) is said.1); ends = said.0 })
said_line asks old new out err new_err a text (Ok l) status asked kept prints fails is (inr part) =
    inr (inl (record { answer = a; asked = asked; printed = fails (refl, subst (λ (t : List ℕ). FailsToSay err new_err t) is part.1); ends = part.0 }))
said_line asks old new out err new_err a text (Err e) status asked kept prints fails is none =
    inr (inr (record { files = kept; out = refl; err = none.1; ends = none.0 }))

pub done_line : (words : List (List ℕ)) (old new : FilesState) (out err new_err : SinkState) (a : Answer) (text : List ℕ) (line : Result (String Global) NoMemory) (status : Status)
    → Asks words old new a
    → (SaysOnly (outside old out err) (outside new out new_err) text → Prints (outside old out err) (outside new out new_err) a)
    → (SaysPart (outside old out err) (outside new out new_err) text → FailsToPrint (outside old out err) (outside new out new_err) a)
    → IfOk line (λ l. string_bytes l ≡ text)
    → MatchResult line (λ l. SaysLine err new_err (string_bytes l) (status_of a) status) (λ e. (status ≡ statuses.NoMemory) × Tries err new_err no_memory_text)
    → HasDone words (outside old out err) (outside new out new_err) status
done_line words old new out err new_err a text line status asked prints fails is says =
    said_line (Asks words) old new out err new_err a text line status asked (files_kept words old new a asked) prints fails is says

-- the text of a request was printed
pub done_text : (words : List (List ℕ)) (old new : FilesState) (out new_out err new_err : SinkState) (r : Request) (text : List ℕ) (status : Status) → IsRequest words r
    → HasText old.contents r text → new ≡ old → PrintsText out new_out err new_err text status → HasDone words (outside old out err) (outside new new_out new_err) status
done_text words old new out new_out err new_err r text status command has same (inl printed) =
    inl (record { answer = Text text; asked = (r, command, has, same); printed = (printed.1, printed.2); ends = printed.0 })
done_text words old new out new_out err new_err r text status command has same (inr part) =
    inr (inl (record { answer = Text text; asked = (r, command, has, same); printed = (part.1, part.2); ends = part.0 }))

-- there was no memory
pub done_none : (words : List (List ℕ)) (old new : FilesState) (out err new_err : SinkState) (status : Status) → new ≡ old → status ≡ statuses.NoMemory
    → Tries err new_err no_memory_text → HasDone words (outside old out err) (outside new out new_err) status
done_none words old new out err new_err status same is tried = inr (inr (record { files = inl same; out = refl; err = tried; ends = is }))

-- ---- what compiling a file says of its fault

pub refusal_of : (old new : FilesState) (path : List ℕ) (fault : Unanswered) (lines : String Global) → fault ≡ unanswered.Refused lines → CompilesFile old new path (Err fault)
    → HasRefusal old.contents (compile path) (string_bytes lines) × (new ≡ old)
refusal_of old new path fault lines is why = rw is at why

-- ---- which answer is due

-- words ask for one thing
one_request : (words : List (List ℕ)) (r s : Request) → IsRequest words r → IsRequest words s → r ≡ s
one_request words (compile p) (compile q) a b = let same = sym a.spelled ∙ b.spelled in cc same
one_request words (compile p) (make n) a b = let same = sym a.spelled ∙ b.spelled in absurd (cc same)
one_request words (compile p) help a b = let same = sym a.spelled ∙ b in absurd (cc same)
one_request words (compile p) version a b = let same = sym a.spelled ∙ b in absurd (cc same)
one_request words (make m) (compile q) a b = let same = sym a.spelled ∙ b.spelled in absurd (cc same)
one_request words (make m) (make n) a b =
    let same = sym a.spelled ∙ b.spelled in
    let written : decimal m ≡ decimal n = cc same in
    ap make (decimal_injective m n (omega (arith, a.few)) (omega (arith, b.few)) written)
one_request words (make m) help a b = let same = sym a.spelled ∙ b in absurd (cc same)
one_request words (make m) version a b = let same = sym a.spelled ∙ b in absurd (cc same)
one_request words help (compile q) a b = let same = sym a ∙ b.spelled in absurd (cc same)
one_request words help (make n) a b = let same = sym a ∙ b.spelled in absurd (cc same)
one_request words help help a b = refl
one_request words help version a b = let same = sym a ∙ b in absurd (cc same)
one_request words version (compile q) a b = let same = sym a ∙ b.spelled in absurd (cc same)
one_request words version (make n) a b = let same = sym a ∙ b.spelled in absurd (cc same)
one_request words version help a b = let same = sym a ∙ b in absurd (cc same)
one_request words version version a b = refl

refusal_content : (contents : Option Contents) (path lines : List ℕ) → HasRefusal contents (compile path) lines → (file : List ℕ) × IsContent contents path file
refusal_content contents path lines (inl fault) = (fault.file, fault.content)
refusal_content contents path lines (inr faults) = (faults.file, faults.content)

-- of a request that is known, one answer is the right one
text_only : (r : Request) (old new : FilesState) (text lines : List ℕ) → IsKnown r old new → HasText old.contents r text → HasRefusal old.contents r lines → ⊥
text_only (compile path) old new text lines known has refusal = not_refused old.contents path lines has.0 known.0 has.1 refusal
text_only (make count) old new text lines known has refusal = refusal
text_only help old new text lines known has refusal = refusal
text_only version old new text lines known has refusal = refusal

text_read : (r : Request) (old new : FilesState) (text path : List ℕ) → IsKnown r old new → HasText old.contents r text → Wants r path → IsUnread old new path → ⊥
text_read (compile p) old new text path known has wants (inl fails) = known.1 fails.read_faults
text_read (compile p) old new text path known has wants (inr lacks) =
    not_lacking old.contents p has.1.file known.0 has.1.content (subst (λ (q : List ℕ). Lacks old.contents q) wants lacks.1)
text_read (make count) old new text path known has wants unread = wants
text_read help old new text path known has wants unread = wants
text_read version old new text path known has wants unread = wants

refusal_read : (r : Request) (old new : FilesState) (lines path : List ℕ) → IsKnown r old new → HasRefusal old.contents r lines → Wants r path → IsUnread old new path → ⊥
refusal_read (compile p) old new lines path known has wants (inl fails) = known.1 fails.read_faults
refusal_read (compile p) old new lines path known has wants (inr lacks) =
    let content = refusal_content old.contents p lines has in
    not_lacking old.contents p content.0 known.0 content.1 (subst (λ (q : List ℕ). Lacks old.contents q) wants lacks.1)
refusal_read (make count) old new lines path known has wants unread = wants
refusal_read help old new lines path known has wants unread = wants
refusal_read version old new lines path known has wants unread = wants

absent_text : (r : Request) (contents : Option Contents) (text path : List ℕ) → Wants r path → IsAbsent contents path → HasText contents r text → ⊥
absent_text (compile p) contents text path wants absent has =
    absent_lacks contents p has.1.file (subst (λ (q : List ℕ). IsAbsent contents q) wants absent) has.1.content
absent_text (make count) contents text path wants absent has = wants
absent_text help contents text path wants absent has = wants
absent_text version contents text path wants absent has = wants

absent_refusal : (r : Request) (contents : Option Contents) (lines path : List ℕ) → Wants r path → IsAbsent contents path → HasRefusal contents r lines → ⊥
absent_refusal (compile p) contents lines path wants absent has =
    let content = refusal_content contents p lines has in
    absent_lacks contents p content.0 (subst (λ (q : List ℕ). IsAbsent contents q) wants absent) content.1
absent_refusal (make count) contents lines path wants absent has = wants
absent_refusal help contents lines path wants absent has = wants
absent_refusal version contents lines path wants absent has = wants

-- what was asked for is of the kind that is due
pub one_status : (words : List (List ℕ)) (old new : FilesState) (due a : Answer) → IsDue words old new due → Asks words old new a → status_of a ≡ status_of due
one_status words old new (Text t) (Text text) due asked = refl
one_status words old new (Text t) (WrongWord k) due asked = absurd (asked.0.whole (due.0, due.1))
one_status words old new (Text t) (Refusal lines) due asked =
    let same = one_request words asked.0 due.0 asked.1 due.1 in
    absurd (text_only due.0 old new t lines due.2 due.3 (subst (λ (r : Request). HasRefusal old.contents r lines) same asked.2))
one_status words old new (Text t) (Unread path) due asked =
    let same = one_request words asked.0 due.0 asked.1 due.1 in
    absurd (text_read due.0 old new t path due.2 due.3 (subst (λ (r : Request). Wants r path) same asked.2) asked.3)
one_status words old new (WrongWord n) (Text text) due asked = absurd (due.whole (asked.0, asked.1))
one_status words old new (WrongWord n) (WrongWord k) due asked = refl
one_status words old new (WrongWord n) (Refusal lines) due asked = absurd (due.whole (asked.0, asked.1))
one_status words old new (WrongWord n) (Unread path) due asked = absurd (due.whole (asked.0, asked.1))
one_status words old new (Refusal l) (Text text) due asked =
    let same = one_request words asked.0 due.0 asked.1 due.1 in
    absurd (text_only due.0 old new text l due.2 (subst (λ (r : Request). HasText old.contents r text) same asked.2) due.3)
one_status words old new (Refusal l) (WrongWord k) due asked = absurd (asked.0.whole (due.0, due.1))
one_status words old new (Refusal l) (Refusal lines) due asked = refl
one_status words old new (Refusal l) (Unread path) due asked =
    let same = one_request words asked.0 due.0 asked.1 due.1 in
    absurd (refusal_read due.0 old new l path due.2 due.3 (subst (λ (r : Request). Wants r path) same asked.2) asked.3)
one_status words old new (Unread p) (Text text) due asked =
    let same = one_request words asked.0 due.0 asked.1 due.1 in
    absurd (absent_text due.0 old.contents text p due.2 due.3 (subst (λ (r : Request). HasText old.contents r text) same asked.2))
one_status words old new (Unread p) (WrongWord k) due asked = absurd (asked.0.whole (due.0, due.1))
one_status words old new (Unread p) (Refusal lines) due asked =
    let same = one_request words asked.0 due.0 asked.1 due.1 in
    absurd (absent_refusal due.0 old.contents lines p due.2 due.3 (subst (λ (r : Request). HasRefusal old.contents r lines) same asked.2))
one_status words old new (Unread p) (Unread path) due asked = refl

-- ---- so a command ends

pub ends : (words : List (List ℕ)) (before after : Outside) (status : Status) → HasDone words before after status
    → (a : Answer) → IsDue words before.files after.files a → EndsWith (status_of a) status
ends words before after status (inl answered) a due = inl (answered.ends ∙ one_status words before.files after.files a answered.answer due answered.asked)
ends words before after status (inr (inl unwritten)) a due = inr (inl unwritten.ends)
ends words before after status (inr (inr none)) a due = inr (inr none.ends)

-- a write that failed raised a count
fails_later : (old mid new : SinkState) (line : List ℕ) → FailsToWrite old mid line → (mid.faults ≡ new.faults) ⊎ Rises mid.faults new.faults → Rises old.faults new.faults
fails_later old mid new line fails (inl same) = record { later = omega (arith, fails.faults.later, same); next = omega (arith, fails.faults.next, same) }
fails_later old mid new line fails (inr rise) =
    record { later = omega (arith, fails.faults.later, rise.later); next = omega (arith, fails.faults.next, rise.later) }

pub said_part : (before after : Outside) (line : List ℕ) → SaysPart before after line → Rises before.err.faults after.err.faults
said_part before after line (same, says) = fails_later before.err says.between after.err line says.part (tried says.rest)
  where
    tried : {bytes : List ℕ} → Tries says.between after.err bytes → (says.between.faults ≡ after.err.faults) ⊎ Rises says.between.faults after.err.faults
    tried (inl writes) = inl (sym writes.faults)
    tried (inr fails) = inr fails.faults

not_written : (before after : Outside) (a : Answer) → FailsToPrint before after a → WritesAll before.out after.out → WritesAll before.err after.err → ⊥
not_written before after (Text text) fails out err = out fails.0.faults
not_written before after (WrongWord k) fails out err = err (said_part before after _ fails)
not_written before after (Refusal lines) fails out err = err (said_part before after _ fails)
not_written before after (Unread path) fails out err = err (said_part before after _ fails)

pub completes : (words : List (List ℕ)) (before after : Outside) (status : Status) → HasDone words before after status
    → (a : Answer) → IsDue words before.files after.files a → WritesAll before.out after.out → WritesAll before.err after.err → (status ≡ status_of a) ⊎ (status ≡ statuses.NoMemory)
completes words before after status (inl answered) a due out err = inl (answered.ends ∙ one_status words before.files after.files a answered.answer due answered.asked)
completes words before after status (inr (inl unwritten)) a due out err = absurd (not_written before after unwritten.answer unwritten.printed out err)
completes words before after status (inr (inr none)) a due out err = inr none.ends

pub runs : (words : List (List ℕ)) (before after : Outside) (status : Status) → HasDone words before after status → RunsCommand words before after status
runs words before after status done = record {
  done = done;
  due = ends words before after status done;
  complete = completes words before after status done;
}
