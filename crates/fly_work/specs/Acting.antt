-- What calls of one worker add to a store on which others may act between them.
use Rattle.std.specs.Prelude.{◌≡◌, ◌≤◌, ◌<◌, ◌+◌, ℕ, List, [], ◌++◌, map, length, slice_get, All, AllPairs, Some}
use Rattle.fly_state.specs.declared.entries.Entry.{Entry}
use Rattle.fly_state.specs.declared.entries.Op.{Op}
use Rattle.fly_world.specs.declared.called.Called.{Called}
use Rattle.fly_world.specs.World.{World}
use Rattle.fly_world.specs.Called.{IsCalled}
use Rattle.fly_world.specs.Journals.{Leads}
use Rattle.fly_world.specs.Kept.{Kept}
use Rattle.fly_ports.specs.Clock.{ClockState}
use Rattle.fly_round.specs.declared.told.Told.{Told}
use Rattle.fly_work.specs.Stages.{Turn, Stage, Goes}
use Rattle.fly_work.specs.Turns.{call_entry, GivesAll, ticks_of}

-- One call of a worker: the entries of others that come before it, if any, and its own. Where it acts alone there are none of others.
pub record AddsCall (alone : Type 0) (old new : Kept) (worker : ℕ) (o : Op) (c : Called) : Type 0 where
  pub plan : new.plan ≡ old.plan
  pub closure : new.closure ≡ old.closure
  pub others : List Entry
  pub before : World
  pub leads : Leads old.plan old.world others before
  pub called : IsCalled old.plan before new.world worker o c
  pub room : old.spare ≤ new.spare + 1
  pub none : alone → others ≡ []

-- Calls of a worker, in order, among what the store got: each at its place, and where it acts alone nothing else.
pub record ActsBy (alone : Type 0) (old new : Kept) (worker : ℕ) (calls : List Told) : Type 0 where
  pub plan : new.plan ≡ old.plan
  pub closure : new.closure ≡ old.closure
  pub more : List Entry
  pub entries : new.world.entries ≡ old.world.entries ++ more
  pub leads : Leads old.plan old.world more new.world
  pub there : All (λ (c : Told). slice_get new.world.entries c.place ≡ Some (call_entry worker c)) calls
  pub rising : AllPairs (λ (a b : Told). a.place < b.place) calls
  pub later : All (λ (c : Told). length old.world.entries ≤ c.place) calls
  pub room : old.spare ≤ new.spare + length calls
  pub only : alone → more ≡ map (call_entry worker) calls

-- A part of a turn, from one stage to another: its calls, and what the clock showed in them.
pub record IsPart (alone : Type 0) (t : Turn) (at end : Stage) (old new : Kept) (clock new_clock : ClockState) (calls : List Told) : Type 0 where
  pub acts : ActsBy alone old new t.worker calls
  pub goes : Goes old.plan old.closure new.world.entries t at calls end
  pub ticks : GivesAll clock new_clock (ticks_of calls)
