-- What reading a file, and the document in it, comes to. Private contracts alone cite this file.
use Rattle.std.specs.Prelude.{◌≡◌, ◌≢◌, ◌+◌, ℕ, List, Result, Ok, Err, Vec, codes, string_bytes}
use Rattle.std.specs.declared.alloc.Global.{Global}
use Rattle.fly_ports.specs.Files.{FilesState, IsFront}
use Rattle.fly_docs.specs.declared.submission.Submission.{Submission}
use Rattle.fly_schema.specs.declared.fault.DocFault.{DocFault}
use Rattle.fly_schema.specs.declared.fault.DocKind.TheVariants as kinds
use Rattle.fly_schema.specs.Table.{Forms}
use Rattle.fly_idl.specs.Reading.{ReadsSubmissions, HaveIds, HaveSoundInputs, IsFirstFault}
use Rattle.fly_idl.specs.Rows.{submissions_form}
use Rattle.fly_app.specs.declared.reading.Unanswered.{Unanswered}
use Rattle.fly_app.specs.declared.reading.Unanswered.TheVariants.{Refused, Unread, NoMemory}
use Rattle.fly_app.specs.Outside.{IsUnread}
use Rattle.fly_app.specs.Printing.{document_line}
use Rattle.fly_app.specs.Documents.{bundle_word, submissions_word, AreSubmissionsAt, HasDocumentFault}

-- the first bytes of a file, one more than the limit or all
abbrev pub ReadsUpTo : FilesState → FilesState → List ℕ → ℕ → Result (Vec ℕ Global) Unanswered → Type 0
ReadsUpTo old new path limit (Ok bytes) = (new ≡ old) × IsFront old.contents path (limit + 1) bytes.items
ReadsUpTo old new path limit (Err (Refused lines)) = ⊥
ReadsUpTo old new path limit (Err (Unread p)) = (p.now ≡ path) × IsUnread old new path
ReadsUpTo old new path limit (Err NoMemory) = new ≡ old

-- the line for the first fault of the bytes
abbrev pub RefusesBytes : List ℕ → Forms → List ℕ → Unanswered → Type 0
RefusesBytes word form bytes (Refused lines) =
    (f : DocFault) × IsFirstFault form bytes f × (f.kind ≢ kinds.NoMemory)
    × (string_bytes lines ≡ document_line word f.kind f.place)
RefusesBytes word form bytes (Unread path) = ⊥
RefusesBytes word form bytes NoMemory = Unit {0}

-- submissions as they are read
pub record AreRead (bytes : List ℕ) (s : List Submission) : Type 0 where
  pub reads : ReadsSubmissions bytes s
  pub ids : HaveIds s
  pub sound : HaveSoundInputs s

abbrev pub ReadsSubmissionsIn : List ℕ → Result (List Submission) Unanswered → Type 0
ReadsSubmissionsIn bytes (Ok s) = AreRead bytes s
ReadsSubmissionsIn bytes (Err e) = RefusesBytes submissions_word submissions_form bytes e

-- the submissions in a file, with ids as names and sound inputs
pub record AreReadAt (old : FilesState) (path : List ℕ) (s : List Submission) : Type 0 where
  pub there : AreSubmissionsAt old.contents path s
  pub ids : HaveIds s
  pub sound : HaveSoundInputs s

abbrev pub ReadsSubmissionsAt : FilesState → FilesState → List ℕ → Result (List Submission) Unanswered → Type 0
ReadsSubmissionsAt old new path (Ok s) = AreReadAt old path s × (new ≡ old)
ReadsSubmissionsAt old new path (Err (Refused lines)) =
    HasDocumentFault submissions_word submissions_form old.contents path (string_bytes lines) × (new ≡ old)
ReadsSubmissionsAt old new path (Err (Unread p)) = (p.now ≡ path) × IsUnread old new path
ReadsSubmissionsAt old new path (Err NoMemory) = new ≡ old
