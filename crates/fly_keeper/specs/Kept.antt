-- What a keeper of a journal in a file has kept.
use Rattle.std.specs.Prelude.{◌≡◌, ℕ, List}
use Rattle.fly_ports.specs.Files.{FilesState}
use Rattle.fly_state.specs.declared.entries.Entry.{Entry}
use Rattle.fly_state.specs.Plans.{RunPlan}
use Rattle.fly_keeper.specs.declared.file_keep.FileKeep.{FileKeep}
use Rattle.fly_keeper.specs.JournalText.{journal_text}
use Rattle.fly_keeper.specs.Gains.{GainsPart, GainsAll}

-- the keeper before and after: the same files, path and plan
pub record IsSameKeeper {F : Type 0} (old new : FileKeep F) : Type 0 where
  pub files : new.files.ghost_name ≡ old.files.ghost_name
  pub path : new.path.now ≡ old.path.now
  pub plan : new.plan.now ≡ old.plan.now

-- the lines of these entries came to its file, and no append failed
pub record KeepsLines {F : Type 0} (state : F → FilesState) (old : FileKeep F) (entries : List Entry) (new : FileKeep F) : Type 0 where
  pub same : IsSameKeeper old new
  pub gains : GainsAll (state old.files.now) (state new.files.now) old.path.now (journal_text old.plan.now entries)

-- a first part of their text did
pub record KeepsPart {F : Type 0} (state : F → FilesState) (old : FileKeep F) (entries : List Entry) (new : FileKeep F) : Type 0 where
  pub same : IsSameKeeper old new
  pub gains : GainsPart (state old.files.now) (state new.files.now) old.path.now (journal_text old.plan.now entries)

-- it keeps journals of the plan that it was made with
abbrev pub TakesOwn : {F : Type 0} → FileKeep F → RunPlan → Type 0
TakesOwn k plan = k.plan.now ≡ plan

-- how many appends of its files have failed
abbrev pub keep_faults : {F : Type 0} → (F → FilesState) → FileKeep F → ℕ
keep_faults state k = (state k.files.now).append_faults
