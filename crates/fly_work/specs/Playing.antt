-- What a worker that acts alone on a store has done by its calls: the entries, the ticks, the children that ran, and what
-- was kept.
use Rattle.std.specs.Prelude.{◌≡◌, ◌≤◌, ◌<◌, ◌+◌, ℕ, true, false, List, ◌++◌, map, length, take, slice_get, All, AllPairs, Some}
use Rattle.std.specs.List.{AllZip}
use Rattle.fly_ports.specs.Clock.{ClockState}
use Rattle.fly_ports.specs.Faults.{Rises}
use Rattle.fly_ports.specs.Spawner.{SpawnerState}
use Rattle.fly_state.specs.declared.entries.Entry.{Entry}
use Rattle.fly_state.specs.Plans.{RunPlan}
use Rattle.fly_world.specs.Journals.{Leads}
use Rattle.fly_world.specs.Kept.{Kept}
use Rattle.fly_round.specs.declared.told.Told.{Told}
use Rattle.fly_work.specs.declared.turn_end.TurnEnd.{TurnEnd}
use Rattle.fly_work.specs.declared.turn_end.TurnEnd.TheVariants as end
use Rattle.fly_work.specs.Children.{Child, RunAll, CameTo}
use Rattle.fly_work.specs.Stages.{Turn, Stage, over, IsWorkClaimed}
use Rattle.fly_work.specs.Turns.{IsTurn, GivesAll, call_entry, ticks_of, claims_of, outcomes_of, is_idle}
use Rattle.fly_work.specs.Keeping.{KeepsBefore}

-- ---- entries

-- The store after these calls of a worker: they are its only new entries, one behind another, each at its place, and each is a step.
pub record AddsCalls (old new : Kept) (worker : ℕ) (calls : List Told) : Type 0 where
  pub plan : new.plan ≡ old.plan
  pub closure : new.closure ≡ old.closure
  pub entries : new.world.entries ≡ old.world.entries ++ map (call_entry worker) calls
  pub leads : Leads old.plan old.world (map (call_entry worker) calls) new.world
  pub there : All (λ (c : Told). slice_get new.world.entries c.place ≡ Some (call_entry worker c)) calls
  pub rising : AllPairs (λ (a b : Told). a.place < b.place) calls
  pub later : All (λ (c : Told). length old.world.entries ≤ c.place) calls
  pub room : old.spare ≤ new.spare + length calls

-- ---- children

-- The children that ran by these calls, in order: each by the work of its claim; all claims ran theirs, or all but the last; and the
-- outcomes that the calls hand in are what the children came to.
pub record HasChildren (plan : RunPlan) (closure : List ℕ) (journal : List Entry) (calls : List Told) (children : List Child) : Type 0 where
  pub works : AllZip (λ (c : Told) (k : Child). IsWorkClaimed plan closure journal c k.work) (take (length children) (claims_of calls)) children
  pub most : length children ≤ length (claims_of calls)
  pub last : length (claims_of calls) ≤ length children + 1
  pub outcomes : AllZip CameTo (take (length (outcomes_of calls)) children) (outcomes_of calls)
  pub some : length (outcomes_of calls) ≤ length children

-- ---- all of it

-- The outside of a worker: its clock, the runs of its spawner, and its keeper of the journal with the count of its faults.
pub record Outside (K : Type 0) : Type 0 where
  pub clock : ClockState
  pub spawner : SpawnerState
  pub keeper : K

-- these three
abbrev pub worker_outside : {K : Type 0} → ClockState → SpawnerState → K → Outside K
worker_outside clock spawner keeper = record { clock = clock; spawner = spawner; keeper = keeper }

-- What these calls of a worker have done: to the store, to the clock, to the spawner and to the keeper.
pub record HasWorked {K : Type 0} (kept kept_part : K → List Entry → K → Type 0) (worker : ℕ) (calls : List Told)
    (store new_store : Kept) (before after : Outside K) : Type 0 where
  pub entries : AddsCalls store new_store worker calls
  pub ticks : GivesAll before.clock after.clock (ticks_of calls)
  pub children : List Child
  pub runs : RunAll before.spawner after.spawner children
  pub claimed : HasChildren store.plan store.closure new_store.world.entries calls children
  pub keeps : KeepsBefore kept kept_part worker calls (length children) before.keeper after.keeper

-- each claim ran its child, and all entries were kept
pub record IsWhole {K : Type 0} {kept kept_part : K → List Entry → K → Type 0} {worker : ℕ} {calls : List Told}
    {store new_store : Kept} {before after : Outside K}
    (did : HasWorked kept kept_part worker calls store new_store before after) : Type 0 where
  pub ran : length did.children ≡ length (claims_of calls)
  pub kept_all : kept before.keeper (map (call_entry worker) calls) after.keeper
  pub kept_rest : kept did.keeps.between (map (call_entry worker) did.keeps.back) after.keeper

-- ---- turns

-- by how a turn ended: went on to its end, found every execution over, failed to keep, or found no memory
abbrev pub EndsTurn : {K : Type 0} → (K → ℕ) → K → K → List Told → Stage → Type 0 → TurnEnd → Type 0
EndsTurn faults old new calls at whole end.Went = (at ≡ over) × (is_idle calls ≡ false) × whole × (faults new ≡ faults old)
EndsTurn faults old new calls at whole end.Idle = (at ≡ over) × (is_idle calls ≡ true) × whole × (faults new ≡ faults old)
EndsTurn faults old new calls at whole end.Spent = ⊥
EndsTurn faults old new calls at whole end.Keep = Rises (faults old) (faults new)
EndsTurn faults old new calls at whole end.NoMemory = faults new ≡ faults old

-- A turn of a worker that acts alone: its calls, as far as a stage, what they have done, and how it ended.
pub record PlaysTurn {K : Type 0} (kept kept_part : K → List Entry → K → Type 0) (faults : K → ℕ) (t : Turn)
    (store new_store : Kept) (before after : Outside K) (ends : TurnEnd) : Type 0 where
  pub calls : List Told
  pub at : Stage
  pub turn : IsTurn store.plan store.closure new_store.world.entries t calls at
  pub did : HasWorked kept kept_part t.worker calls store new_store before after
  pub ended : EndsTurn faults before.keeper after.keeper calls at (IsWhole did) ends
