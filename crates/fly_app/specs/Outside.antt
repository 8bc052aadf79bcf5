-- The outside of a command: files and two streams.
use Rattle.std.specs.Prelude.{◌≡◌, ◌⊎◌, List, ℕ, Option, Some, None, IfSome}
use Rattle.fly_ports.specs.Faults.{Rises}
use Rattle.fly_ports.specs.Files.{Contents, FilesState, Lacks, FailsToRead}
use Rattle.fly_ports.specs.Sink.{SinkState}

-- what files hold, and what the streams for answers and for errors have got
pub record Outside : Type 0 where
  pub files : FilesState
  pub out : SinkState
  pub err : SinkState

-- these three
abbrev pub outside : FilesState → SinkState → SinkState → Outside
outside files out err = record { files = files; out = out; err = err }

-- ---- files

-- where contents are told, the file at the path
abbrev pub IsContent : Option Contents → List ℕ → List ℕ → Type 0
IsContent contents path file = IfSome contents (λ held. held path ≡ Some file)

-- what the files hold is told
abbrev pub IsTold : Option Contents → Type 0
IsTold contents = (held : Contents) × (contents ≡ Some held)

-- contents are told, and there is no file at the path
abbrev pub IsAbsent : Option Contents → List ℕ → Type 0
IsAbsent contents path = (held : Contents) × (contents ≡ Some held) × (held path ≡ None)

-- where contents are told, there is no file at the path; or a read failed
abbrev pub IsUnread : FilesState → FilesState → List ℕ → Type 0
IsUnread old new path = FailsToRead old new ⊎ (new ≡ old) × Lacks old.contents path

-- no read failed between the two
abbrev pub ReadsAll : FilesState → FilesState → Type 0
ReadsAll old new = Rises old.read_faults new.read_faults → ⊥

-- no write of the stream failed between the two
abbrev pub WritesAll : SinkState → SinkState → Type 0
WritesAll old new = Rises old.faults new.faults → ⊥
