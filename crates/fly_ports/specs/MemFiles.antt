-- Files in memory.
use Rattle.std.specs.Prelude.{Result, Ok, Err, ℕ, ◌-◌, Bool, true, false, not, ◌&&◌, nat_le, if◌then◌else◌, List, [], ◌∷◌, ◌++◌, length, take, None, Some, unwrap_or, bytes_eq}
use Rattle.fly_ports.specs.Faults.{next_count, is_bad}
use Rattle.fly_ports.specs.Files.{Contents, FilesState}
use Rattle.fly_ports.specs.declared.faults.ReadFault.{ReadFault}
use Rattle.fly_ports.specs.declared.faults.ReadFault.TheVariants.{Failed, Absent, NoMemory}
use Rattle.fly_ports.specs.declared.memory_files.MemFile.{MemFile}

-- the paths, the numbers of the calls that are to fail, and the calls and faults so far
pub record FilesMemory : Type 0 where
  pub files : List MemFile
  pub bad_reads : List ℕ
  pub bad_appends : List ℕ
  pub reads : ℕ
  pub appends : ℕ
  pub read_faults : ℕ
  pub append_faults : ℕ

-- files that were not called yet
abbrev pub new_files : List MemFile → List ℕ → List ℕ → FilesMemory
new_files files bad_reads bad_appends = record {
  files = files;
  bad_reads = bad_reads;
  bad_appends = bad_appends;
  reads = 0;
  appends = 0;
  read_faults = 0;
  append_faults = 0;
}

-- what the first file of a path holds
abbrev pub content_of : List MemFile → Contents
content_of [] q = None
content_of (file ∷ files) q = if bytes_eq file.path q then file.content else content_of files q

-- what the files tell, and their counts
abbrev pub files_state : FilesMemory → FilesState
files_state m = record { contents = Some (content_of m.files); read_faults = m.read_faults; append_faults = m.append_faults }

-- the bytes of a file, none where it is absent
abbrev pub bytes_of : MemFile → List ℕ
bytes_of file = unwrap_or file.content []

-- the file with what there is room for of these bytes at its end
abbrev pub file_with : MemFile → List ℕ → MemFile
file_with file bytes = record file { content = Some (bytes_of file ++ take (file.room - length (bytes_of file)) bytes) }

-- the files with these bytes at the end of the first of this path
abbrev pub files_with : List MemFile → List ℕ → List ℕ → List MemFile
files_with [] path bytes = []
files_with (file ∷ files) path bytes =
    if bytes_eq file.path path then file_with file bytes ∷ files else file ∷ files_with files path bytes

-- there is a file of this path, and in the first there is room for all these bytes
abbrev pub has_room : List MemFile → List ℕ → List ℕ → Bool
has_room [] path bytes = false
has_room (file ∷ files) path bytes =
    if bytes_eq file.path path then nat_le (length bytes) (file.room - length (bytes_of file)) else has_room files path bytes

-- the read failed
abbrev pub is_failure : {T : Type 0} → Result T ReadFault → Bool
is_failure (Ok bytes) = false
is_failure (Err Failed) = true
is_failure (Err Absent) = false
is_failure (Err NoMemory) = false

-- the next read is to fail
abbrev pub fails_read : FilesMemory → Bool
fails_read m = is_bad m.bad_reads (next_count m.reads)

-- a read that answers for want of memory isn't counted
abbrev pub files_after_read : {T : Type 0} → FilesMemory → Result T ReadFault → FilesMemory
files_after_read m (Ok bytes) = record m { reads = next_count m.reads }
files_after_read m (Err Failed) = record m { reads = next_count m.reads; read_faults = next_count m.read_faults }
files_after_read m (Err Absent) = record m { reads = next_count m.reads }
files_after_read m (Err NoMemory) = m

-- the next append is not to fail, and there is room for all these bytes
abbrev pub appends_all : FilesMemory → List ℕ → List ℕ → Bool
appends_all m path bytes = not (is_bad m.bad_appends (next_count m.appends)) && has_room m.files path bytes

-- an append that is to fail writes nothing
abbrev pub files_after_append : FilesMemory → List ℕ → List ℕ → FilesMemory
files_after_append m path bytes = record m {
  files = if is_bad m.bad_appends (next_count m.appends) then m.files else files_with m.files path bytes;
  appends = next_count m.appends;
  append_faults = if appends_all m path bytes then m.append_faults else next_count m.append_faults;
}
