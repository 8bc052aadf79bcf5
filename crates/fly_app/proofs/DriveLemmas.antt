-- A run that was driven while its journal was kept in a file.
use Rattle.std.proofs.Common.{◌≡◌, ℕ, List, length, Result, Ok, Err, refl}
use Rattle.fly_ports.specs.Files.{FilesState}
use Rattle.fly_world.specs.Kept.{Kept, IsLegal}
use Rattle.fly_work.specs.declared.driving.DriveFault.{DriveFault}
use Rattle.fly_work.specs.declared.driving.DriveFault.TheVariants as fault
use Rattle.fly_work.specs.Drives.{DrivesAlone, EndsDrive, EndsIdle, turn_numbered}
use Rattle.fly_work.specs.Playing.{Outside, IsWhole}
use Rattle.fly_keeper.specs.declared.file_keep.FileKeep.{FileKeep}
use Rattle.fly_keeper.specs.Kept.{KeepsLines, KeepsPart, keep_faults}
use Rattle.fly_keeper.proofs.GainsLemmas.{same-before, gains-before, gains-all}
use Rattle.fly_app.specs.RunOutside.{WorkOutside, work_outside}
use Rattle.fly_app.specs.Runs.{calls_of}
use Rattle.fly_app.specs.Running.{DrivesFile, IsDriven, EndsSo}

-- the outside of the worker of a keeper in files
abbrev outside_of : {F : Type 0} → (F → FilesState) → Outside (FileKeep F) → WorkOutside
outside_of state o = work_outside (state o.keeper.files.now) o.clock o.spawner

module _ {F : Type 0} (state : F → FilesState) (lag : ℕ) (store new : Kept) (before after : Outside (FileKeep F))
    (steps new_steps : ℕ)
    (r : Result (Unit {0}) DriveFault)
    (drives : DrivesAlone (KeepsLines state) (KeepsPart state) (keep_faults state) lag store new before after steps
    new_steps r) where
  -- it is the keeper of before
  pub same-files : after.keeper.files.ghost_name ≡ before.keeper.files.ghost_name
  same-files =
      (same-before state 0 (calls_of drives.turns) (length drives.did.children) before.keeper after.keeper
      drives.did.keeps).files

  ended : (q : Result (Unit {0}) DriveFault)
      → (q ≡ Ok _ → EndsIdle store.plan store.closure new.world.entries (turn_numbered (length
      store.world.executions) lag) 0 drives.turns)
      → EndsDrive (keep_faults state) before.keeper after.keeper new (IsWhole drives.did) q
      → EndsSo (outside_of state before) (outside_of state after)
      (IsDriven before.keeper.plan.now lag before.keeper.path.now store new (outside_of state before) (outside_of
      state after) drives.turns
      drives.did.children) q
  ended (Ok done) idle ends = record {
    over = ends.0;
    ran = ends.1.ran;
    idle = idle refl;
    kept = gains-all state 0 (calls_of drives.turns) before.keeper after.keeper ends.1.kept_all;
  }
  ended (Err fault.Keep) idle ends = ends
  ended (Err fault.NoMemory) idle ends = tt

  pub drives-file : IsLegal new
      → DrivesFile before.keeper.plan.now lag before.keeper.path.now store new (outside_of state before)
      (outside_of state after) r
  drives-file legal = record {
    legal = legal;
    turns = drives.turns;
    entries = drives.did.entries;
    are_turns = drives.are_turns;
    ticks = drives.did.ticks;
    children = drives.did.children;
    runs = drives.did.runs;
    claimed = drives.did.claimed;
    gains = gains-before state 0 (calls_of drives.turns)
        (length drives.did.children) before.keeper after.keeper drives.did.keeps;
    ended = ended r drives.idle drives.ended;
  }
