-- The outside of a run: files and streams, and the clock and the spawner of its one worker.
use Rattle.std.specs.Prelude.{◌≡◌}
use Rattle.fly_ports.specs.Clock.{ClockState}
use Rattle.fly_ports.specs.Faults.{Rises}
use Rattle.fly_ports.specs.Files.{FilesState}
use Rattle.fly_ports.specs.Spawner.{SpawnerState}
use Rattle.fly_app.specs.Outside.{Outside}

pub record RunOutside : Type 0 where
  pub outside : Outside
  pub clock : ClockState
  pub spawner : SpawnerState

-- these three
abbrev pub run_outside : Outside → ClockState → SpawnerState → RunOutside
run_outside outside clock spawner = record { outside = outside; clock = clock; spawner = spawner }

-- What the worker has of it: the files in which the journal is kept, the clock and the spawner.
pub record WorkOutside : Type 0 where
  pub files : FilesState
  pub clock : ClockState
  pub spawner : SpawnerState

-- these three
abbrev pub work_outside : FilesState → ClockState → SpawnerState → WorkOutside
work_outside files clock spawner = record { files = files; clock = clock; spawner = spawner }

abbrev pub work_of : RunOutside → WorkOutside
work_of o = work_outside o.outside.files o.clock o.spawner

-- the clock was not asked, and no child ran
pub record HasNotWorked (before after : RunOutside) : Type 0 where
  pub clock : after.clock ≡ before.clock
  pub spawner : after.spawner ≡ before.spawner

-- an append failed between the two
abbrev pub FailsAppend : FilesState → FilesState → Type 0
FailsAppend old new = Rises old.append_faults new.append_faults

-- no append failed between the two
abbrev pub AppendsAll : FilesState → FilesState → Type 0
AppendsAll old new = FailsAppend old new → ⊥
