-- What commands answer, and what they leave. Every command but `run` is a case of three definitions: what it asks for (`IsRequest`), which
-- text it prints (`HasText`), and why it has none (`HasRefusal`).
use Rattle.std.specs.Prelude.{◌≡◌, ◌⊎◌, ℕ, List, ◌++◌, Option, ⊤}
use Rattle.fly_ports.specs.Files.{Contents, FilesState, FailsToRead}
use Rattle.fly_ports.specs.Sink.{Writes, FailsToWrite, Tries}
use Rattle.fly_docs.specs.declared.closure.Closure.{Closure}
use Rattle.fly_writers.specs.Closures.{closure_text}
use Rattle.fly_idl.specs.Rows.{bundle_form}
use Rattle.fly_app.specs.declared.status.Status.{Status}
use Rattle.fly_app.specs.declared.status.Status.TheVariants as statuses
use Rattle.fly_app.specs.Words.{Request, compile, make, help, version, IsRequest, IsCommand, IsFirstWrong}
use Rattle.fly_app.specs.Outside.{Outside, IsTold, IsAbsent, IsUnread, ReadsAll, WritesAll}
use Rattle.fly_app.specs.Documents.{bundle_word, IsClosureAt, HasDocumentFault, HasBundleFaults}
use Rattle.fly_app.specs.Printing.{newline, usage_text, unread_text, unwritten_text, no_memory_text, FailsToSay}
use Rattle.fly_app.specs.Help.{help_text, version_text}
use Rattle.fly_make.specs.Making.{IsSummary}

-- ---- compile

-- the text of the closure of the bundle in a file, with a newline
abbrev pub HasClosure : Option Contents → List ℕ → List ℕ → Type 0
HasClosure contents path text = (c : Closure) × IsClosureAt contents path c × (text ≡ closure_text c ++ newline)

-- ---- answers

-- what a command has to print: the text that it is asked for, or lines that say why there is none
pub data Answer : Type 0 where
  Text : List ℕ → Answer
  WrongWord : ℕ → Answer
  Refusal : List ℕ → Answer
  Unread : List ℕ → Answer

-- the text that a request is answered with
abbrev pub HasText : Option Contents → Request → List ℕ → Type 0
HasText contents (compile path) text = HasClosure contents path text
HasText contents (make count) text = IsSummary count text
HasText contents help text = text ≡ help_text
HasText contents version text = text ≡ version_text

-- the lines with which it is refused
abbrev pub HasRefusal : Option Contents → Request → List ℕ → Type 0
HasRefusal contents (compile path) lines =
    HasDocumentFault bundle_word bundle_form contents path lines ⊎ HasBundleFaults contents path lines
HasRefusal contents _ lines = ⊥

-- the file at this path is to be read for it
abbrev pub Wants : Request → List ℕ → Type 0
Wants (compile path) file = file ≡ path
Wants _ file = ⊥

-- the words ask for this answer over the old files, which are left as the new
abbrev pub Asks : List (List ℕ) → FilesState → FilesState → Answer → Type 0
Asks words old new (Text text) = (r : Request) × IsRequest words r × HasText old.contents r text × (new ≡ old)
Asks words old new (WrongWord k) = IsFirstWrong IsCommand words k × (new ≡ old)
Asks words old new (Refusal lines) = (r : Request) × IsRequest words r × HasRefusal old.contents r lines × (new ≡ old)
Asks words old new (Unread path) = (r : Request) × IsRequest words r × Wants r path × IsUnread old new path

-- the status of a command that printed the answer
abbrev pub status_of : Answer → Status
status_of (Text text) = statuses.Done
status_of (WrongWord k) = statuses.Usage
status_of (Refusal lines) = statuses.Refused
status_of (Unread path) = statuses.ReadFault

-- nothing but this was printed, as an error
abbrev pub SaysOnly : Outside → Outside → List ℕ → Type 0
SaysOnly before after line = (after.out ≡ before.out) × Writes before.err after.err line

-- nothing was printed but what there is of this, of which a write failed
abbrev pub SaysPart : Outside → Outside → List ℕ → Type 0
SaysPart before after line = (after.out ≡ before.out) × FailsToSay before.err after.err line

-- this answer was printed, and nothing else
abbrev pub Prints : Outside → Outside → Answer → Type 0
Prints before after (Text text) = Writes before.out after.out text × (after.err ≡ before.err)
Prints before after (WrongWord k) = SaysOnly before after (usage_text k)
Prints before after (Refusal lines) = SaysOnly before after lines
Prints before after (Unread path) = SaysOnly before after (unread_text path)

-- a write of this answer failed, and `cannot write` was tried
abbrev pub FailsToPrint : Outside → Outside → Answer → Type 0
FailsToPrint before after (Text text) = FailsToWrite before.out after.out text × Tries before.err after.err unwritten_text
FailsToPrint before after (WrongWord k) = SaysPart before after (usage_text k)
FailsToPrint before after (Refusal lines) = SaysPart before after lines
FailsToPrint before after (Unread path) = SaysPart before after (unread_text path)

-- ---- what a command has done

-- a command printed the answer that was asked for
pub record IsAnswered (asks : FilesState → FilesState → Answer → Type 0) (before after : Outside) (status : Status) : Type 0 where
  pub answer : Answer
  pub asked : asks before.files after.files answer
  pub printed : Prints before after answer
  pub ends : status ≡ status_of answer

-- a command could not write the answer that was asked for
pub record IsUnwritten (asks : FilesState → FilesState → Answer → Type 0) (before after : Outside) (status : Status) : Type 0 where
  pub answer : Answer
  pub asked : asks before.files after.files answer
  pub printed : FailsToPrint before after answer
  pub ends : status ≡ statuses.WriteFault

-- a command found no memory: no answer was printed, and `out of memory` was tried
pub record LacksMemory (before after : Outside) (status : Status) : Type 0 where
  pub files : (after.files ≡ before.files) ⊎ FailsToRead before.files after.files
  pub out : after.out ≡ before.out
  pub err : Tries before.err after.err no_memory_text
  pub ends : status ≡ statuses.NoMemory

abbrev pub HasDone : List (List ℕ) → Outside → Outside → Status → Type 0
HasDone words before after status =
    IsAnswered (Asks words) before after status ⊎ IsUnwritten (Asks words) before after status ⊎ LacksMemory before after status

-- ---- which answer is due

-- where the request reads a file, what the files hold is told, and no read failed
abbrev pub IsKnown : Request → FilesState → FilesState → Type 0
IsKnown (compile path) old new = IsTold old.contents × ReadsAll old new
IsKnown _ old new = ⊤

-- this answer is the one
abbrev pub IsDue : List (List ℕ) → FilesState → FilesState → Answer → Type 0
IsDue words old new (Text text) = (r : Request) × IsRequest words r × IsKnown r old new × HasText old.contents r text
IsDue words old new (WrongWord k) = IsFirstWrong IsCommand words k
IsDue words old new (Refusal lines) = (r : Request) × IsRequest words r × IsKnown r old new × HasRefusal old.contents r lines
IsDue words old new (Unread path) = (r : Request) × IsRequest words r × Wants r path × IsAbsent old.contents path

-- the command ends with this status, or couldn't write its answer, or found no memory for it
abbrev pub EndsWith : Status → Status → Type 0
EndsWith due status = (status ≡ due) ⊎ (status ≡ statuses.WriteFault) ⊎ (status ≡ statuses.NoMemory)

-- Whatever a command does: what it has printed and left; that it ends as the answer that is due says, or couldn't write it, or found no
-- memory; and that it printed that answer, or found no memory, where no write failed.
pub record RunsCommand (words : List (List ℕ)) (before after : Outside) (status : Status) : Type 0 where
  pub done : HasDone words before after status
  pub due : (a : Answer) → IsDue words before.files after.files a → EndsWith (status_of a) status
  pub complete : (a : Answer) → IsDue words before.files after.files a → WritesAll before.out after.out → WritesAll before.err after.err
      → (status ≡ status_of a) ⊎ (status ≡ statuses.NoMemory)
