-- The calls at the beginning of a turn. Private contracts alone cite this file.
use Rattle.std.specs.Prelude.{◌≡◌, ◌⊎◌, ℕ, ℤ, List, Option, Some, None, Result, Ok, Err}
use Rattle.fly_types.specs.declared.memory.NoMemory.{NoMemory}
use Rattle.fly_ports.specs.Clock.{ClockState, Gives}
use Rattle.fly_state.specs.declared.entries.Op.TheVariants as op
use Rattle.fly_state.specs.declared.entries.Reply.{Reply}
use Rattle.fly_state.specs.declared.entries.Reply.TheVariants as reply
use Rattle.fly_state.specs.declared.view.View.{View}
use Rattle.fly_state.specs.OfPlan.{IsViewOfPlan}
use Rattle.fly_world.specs.declared.called.Called.{Called}
use Rattle.fly_world.specs.Called.{view_read}
use Rattle.fly_world.specs.Kept.{Kept, IsLegal}
use Rattle.fly_work.specs.Acting.{AddsCall}

-- the moment, or want of memory
abbrev pub IsTicked : Reply → Result (Unit {0}) NoMemory → Type 0
IsTicked r (Ok _) = (moment : ℤ) × (r ≡ reply.Now moment)
IsTicked r (Err _) = r ≡ reply.NoMemory

-- how many reservations were let go, or want of memory
abbrev pub IsSwept : Reply → Result (Unit {0}) NoMemory → Type 0
IsSwept r (Ok _) = (count : ℕ) × (r ≡ reply.Swept count)
IsSwept r (Err _) = r ≡ reply.NoMemory

-- A version was read, and this is its view, which is of the plan.
pub record IsViewed (k : Kept) (r : Reply) (v : View) : Type 0 where
  pub name : List ℕ
  pub version : ℕ
  pub current : ℕ
  pub said : r ≡ reply.Viewed name version current
  pub given : view_read k.world r ≡ Some v
  pub of_plan : IsViewOfPlan k.plan v

-- every execution is over; or a version was read; or memory was wanting, for the call or for the view
abbrev pub IsRead : Kept → Reply → Result (Option View) NoMemory → Type 0
IsRead k r (Ok None) = r ≡ reply.Idle
IsRead k r (Ok (Some v)) = IsViewed k r v
IsRead k r (Err _) = (r ≡ reply.NoMemory) ⊎ ((v : View) × IsViewed k r v)

-- One tick, at a moment that the clock gave.
pub record Ticks (alone : Type 0) (old new : Kept) (worker : ℕ) (clock new_clock : ClockState)
    (result : Result (Unit {0}) NoMemory) : Type 0 where
  pub now : ℤ
  pub called : Called
  pub adds : AddsCall alone old new worker (op.Tick now) called
  pub gives : Gives clock new_clock now
  pub told : IsTicked called.reply result

-- One sweep.
pub record Sweeps (alone : Type 0) (old new : Kept) (worker : ℕ) (result : Result (Unit {0}) NoMemory) : Type 0 where
  pub called : Called
  pub adds : AddsCall alone old new worker op.Sweep called
  pub told : IsSwept called.reply result

-- One read, and that its journal is legal.
pub record Reads (alone : Type 0) (old new : Kept) (worker from back : ℕ)
    (result : Result (Option View) NoMemory) : Type 0 where
  pub called : Called
  pub legal : IsLegal new
  pub adds : AddsCall alone old new worker (op.Read from back) called
  pub told : IsRead new called.reply result
