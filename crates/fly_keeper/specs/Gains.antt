-- What files gain at the end of one of them.
use Rattle.std.specs.Prelude.{◌≡◌, ◌≤◌, ℕ, false, List, [], ◌++◌, map, take, Option, None, Some, unwrap_or, bytes_eq, Result, Ok, Err, ⊤}
use Rattle.fly_ports.specs.Faults.{Rises}
use Rattle.fly_ports.specs.Files.{Contents, FilesState}
use Rattle.fly_state.specs.Plans.{RunPlan}
use Rattle.fly_round.specs.declared.told.Told.{Told}
use Rattle.fly_work.specs.declared.keep.KeepFault.{KeepFault}
use Rattle.fly_work.specs.declared.keep.KeepFault.TheVariants as fault
use Rattle.fly_work.specs.Turns.{call_entry}
use Rattle.fly_work.specs.Keeping.{EndsAtClaim}
use Rattle.fly_keeper.specs.JournalText.{journal_text}

-- the bytes of the file at a path; an absent file has none
abbrev pub bytes_at : Contents → List ℕ → List ℕ
bytes_at held path = unwrap_or (held path) []

-- this text came to the end of the path's file, and each other path holds what it held
pub record GainsBytes (old new : Contents) (path text : List ℕ) : Type 0 where
  pub gained : bytes_at new path ≡ bytes_at old path ++ text
  pub others : (q : List ℕ) → bytes_eq path q ≡ false → new q ≡ old q

-- the same, where contents are told; where they are not, they stay so
abbrev pub GainsWhereTold : Option Contents → Option Contents → List ℕ → List ℕ → Type 0
GainsWhereTold None None path text = ⊤
GainsWhereTold (Some old) (Some new) path text = GainsBytes old new path text
GainsWhereTold None (Some new) path text = ⊥
GainsWhereTold (Some old) None path text = ⊥

-- The files before and after gaining this text at the end of the path's file. Appends may have failed, reads have not.
pub record GainsText (old new : FilesState) (path text : List ℕ) : Type 0 where
  pub contents : GainsWhereTold old.contents new.contents path text
  pub read_faults : new.read_faults ≡ old.read_faults
  pub append_faults : old.append_faults ≤ new.append_faults

-- a first part of this text came to it
pub record GainsPart (old new : FilesState) (path text : List ℕ) : Type 0 where
  pub count : ℕ
  pub gains : GainsText old new path (take count text)

-- all of this text came to it, and no append failed
pub record GainsAll (old new : FilesState) (path text : List ℕ) : Type 0 where
  pub gains : GainsText old new path text
  pub faultless : new.append_faults ≡ old.append_faults

-- by the answer of a keeping: all of this text; a first part of it, where an append failed; nothing for want of memory
abbrev pub GainsBy : FilesState → FilesState → List ℕ → List ℕ → Result (Unit {0}) KeepFault → Type 0
GainsBy old new path text (Ok _) = GainsAll old new path text
GainsBy old new path text (Err fault.Failed) = GainsPart old new path text × Rises old.append_faults new.append_faults
GainsBy old new path text (Err fault.NoMemory) = new ≡ old

-- ---- the calls of a worker

-- the lines of the entries of a worker's calls
abbrev pub calls_text : RunPlan → ℕ → List Told → List ℕ
calls_text plan worker calls = journal_text plan (map (call_entry worker) calls)

-- Of a worker's calls, of which the first so many claims ran their child: the file gained the lines of all up to the last of
-- these claims, or none where no child ran, and of the lines of the rest a first part.
pub record GainsBefore (plan : RunPlan) (path : List ℕ) (worker : ℕ) (calls : List Told) (ran : ℕ) (old new : FilesState) : Type 0 where
  pub front : List Told
  pub back : List Told
  pub all : calls ≡ front ++ back
  pub ends : EndsAtClaim front ran
  pub count : ℕ
  pub gains : GainsText old new path (calls_text plan worker front ++ take count (calls_text plan worker back))
