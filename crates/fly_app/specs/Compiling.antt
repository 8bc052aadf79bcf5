-- What compiling a file comes to. Private contracts alone cite this file.
use Rattle.std.specs.Prelude.{◌≡◌, ◌≢◌, ◌⊎◌, ◌++◌, ℕ, List, [], Some, Result, Ok, Err, Vec, string_bytes}
use Rattle.std.specs.declared.alloc.Global.{Global}
use Rattle.fly_types.specs.Lookup.{AreVariablesSorted}
use Rattle.fly_ports.specs.Files.{FilesState}
use Rattle.fly_docs.specs.declared.workflow.Bundle.{Bundle}
use Rattle.fly_docs.specs.declared.closure.Closure.{Closure}
use Rattle.fly_docs.specs.Closures.{closure_of}
use Rattle.fly_docs.specs.TypedClosures.{IsTypedClosure}
use Rattle.fly_writers.specs.Closures.{closure_text}
use Rattle.fly_idl.specs.Rows.{bundle_form}
use Rattle.fly_faults.specs.FaultList.{faults_of}
use Rattle.fly_state.specs.Plans.{plan_for}
use Rattle.fly_state.specs.PlanTables.{IsPlannable}
use Rattle.fly_work.specs.Drives.{IsUncached}
use Rattle.fly_opening.specs.Submissions.{workflow_inputs}
use Rattle.fly_app.specs.declared.reading.Unanswered.{Unanswered}
use Rattle.fly_app.specs.declared.reading.Unanswered.TheVariants.{Refused, Unread, NoMemory}
use Rattle.fly_app.specs.Outside.{IsUnread}
use Rattle.fly_app.specs.Printing.{newline, fault_lines}
use Rattle.fly_app.specs.Documents.{bundle_word, IsClosureAt, HasDocumentFault, HasBundleFaults}
use Rattle.fly_app.specs.Answers.{HasClosure}

-- the closure of a bundle without faults, or a line for each fault
abbrev pub ClosesBundle : Bundle → Result Closure Unanswered → Type 0
ClosesBundle b (Ok c) = (faults_of b ≡ []) × (closure_of b ≡ Some c) × IsTypedClosure c
ClosesBundle b (Err (Refused lines)) = (faults_of b ≢ []) × (string_bytes lines ≡ fault_lines (faults_of b))
ClosesBundle b (Err (Unread path)) = ⊥
ClosesBundle b (Err NoMemory) = Unit {0}

-- what is needed of a closure for a run of it
pub record IsRunnable (c : Closure) : Type 0 where
  pub typed : IsTypedClosure c
  pub plannable : IsPlannable c
  pub uncached : IsUncached (plan_for c)
  pub sorted : AreVariablesSorted (workflow_inputs (plan_for c))

-- the lines for a bundle's file that is refused
abbrev pub RefusesFile : FilesState → FilesState → List ℕ → List ℕ → Type 0
RefusesFile old new path lines =
    (HasDocumentFault bundle_word bundle_form old.contents path lines ⊎ HasBundleFaults old.contents path lines)
    × (new ≡ old)

-- the closure of the bundle in the file at a path, and how reading it leaves the files
abbrev pub ClosesFile : FilesState → FilesState → List ℕ → Result Closure Unanswered → Type 0
ClosesFile old new path (Ok c) = IsClosureAt old.contents path c × IsRunnable c × (new ≡ old)
ClosesFile old new path (Err (Refused lines)) = RefusesFile old new path (string_bytes lines)
ClosesFile old new path (Err (Unread p)) = (p.now ≡ path) × IsUnread old new path
ClosesFile old new path (Err NoMemory) = new ≡ old

-- the text of a closure with a newline
abbrev pub WritesClosure : Closure → Result (Vec ℕ Global) Unanswered → Type 0
WritesClosure c (Ok text) = text.items ≡ closure_text c ++ newline
WritesClosure c (Err (Refused lines)) = ⊥
WritesClosure c (Err (Unread path)) = ⊥
WritesClosure c (Err NoMemory) = Unit {0}

-- what compiling the file at a path answers, and how it leaves the files
abbrev pub CompilesFile : FilesState → FilesState → List ℕ → Result (Vec ℕ Global) Unanswered → Type 0
CompilesFile old new path (Ok text) = HasClosure old.contents path text.items × (new ≡ old)
CompilesFile old new path (Err (Refused lines)) = RefusesFile old new path (string_bytes lines)
CompilesFile old new path (Err (Unread p)) = (p.now ≡ path) × IsUnread old new path
CompilesFile old new path (Err NoMemory) = new ≡ old
