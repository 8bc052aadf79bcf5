-- What files hold, by their paths.
use Rattle.std.specs.Prelude.{ℕ, ◌≡◌, ◌⊎◌, List, [], ◌++◌, take, Option, None, Some, IfSome, option_map, unwrap_or, if◌then◌else◌, bytes_eq, Result, Ok, Err, Vec}
use Rattle.std.specs.declared.alloc.Global.{Global}
use Rattle.fly_ports.specs.Faults.{Rises}
use Rattle.fly_ports.specs.declared.faults.ReadFault.{ReadFault}
use Rattle.fly_ports.specs.declared.faults.ReadFault.TheVariants.{Failed, Absent, NoMemory}

-- the content of the file at each path, and nothing where there is no file
abbrev pub Contents : Type 0
Contents = List ℕ → Option (List ℕ)

-- what each path holds, where this is told, and how many reads and how many appends have failed
pub record FilesState : Type 0 where
  pub contents : Option Contents
  pub read_faults : ℕ
  pub append_faults : ℕ

-- ---- reads

-- where contents are told, these are the first bytes of what the path holds, as many as asked or all
abbrev pub IsFront : Option Contents → List ℕ → ℕ → List ℕ → Type 0
IsFront contents path most bytes = IfSome contents (λ held. option_map (λ file. take most file) (held path) ≡ Some bytes)

-- where contents are told, there is no file at the path
abbrev pub Lacks : Option Contents → List ℕ → Type 0
Lacks contents path = IfSome contents (λ held. held path ≡ None)

-- a read failed, and nothing else changed
pub record FailsToRead (old new : FilesState) : Type 0 where
  pub contents : new.contents ≡ old.contents
  pub read_faults : Rises old.read_faults new.read_faults
  pub append_faults : new.append_faults ≡ old.append_faults

-- a read of so many bytes at a path answers this; it changes nothing where it doesn't fail
abbrev pub ReadsFile : FilesState → FilesState → List ℕ → ℕ → Result (Vec ℕ Global) ReadFault → Type 0
ReadsFile old new path most (Ok bytes) = (new ≡ old) × IsFront old.contents path most bytes.items
ReadsFile old new path most (Err Failed) = FailsToRead old new
ReadsFile old new path most (Err Absent) = (new ≡ old) × Lacks old.contents path
ReadsFile old new path most (Err NoMemory) = new ≡ old

-- ---- appends

-- the contents with these bytes at the end of one path's file, and all of it where there was none
abbrev pub contents_with : Contents → List ℕ → List ℕ → Contents
contents_with held path bytes q = if bytes_eq path q then Some (unwrap_or (held path) [] ++ bytes) else held q

-- the same, where contents are told
abbrev pub known_with : Option Contents → List ℕ → List ℕ → Option Contents
known_with contents path bytes = option_map (λ held. contents_with held path bytes) contents

-- nothing came to the path's file, or a first part of these bytes
abbrev pub AppendsPart : Option Contents → Option Contents → List ℕ → List ℕ → Type 0
AppendsPart old new path bytes = (new ≡ old) ⊎ ((n : ℕ) × (new ≡ known_with old path (take n bytes)))

-- all these bytes came to the path's file
pub record AppendsToFile (old new : FilesState) (path bytes : List ℕ) : Type 0 where
  pub contents : new.contents ≡ known_with old.contents path bytes
  pub read_faults : new.read_faults ≡ old.read_faults
  pub append_faults : new.append_faults ≡ old.append_faults

-- an append of these bytes failed, after none or a first part of them
pub record FailsToAppend (old new : FilesState) (path bytes : List ℕ) : Type 0 where
  pub part : AppendsPart old.contents new.contents path bytes
  pub read_faults : new.read_faults ≡ old.read_faults
  pub append_faults : Rises old.append_faults new.append_faults
