-- What a call of the store gives: one entry that is a step, and with it what was read or claimed.
use Rattle.std.specs.Prelude.{◌≡◌, ◌⊎◌, ℕ, true, false, ◌||◌, IsTrue, length, Option, None, option_map, is_some}
use Rattle.fly_state.specs.declared.entries.Entry.{Entry}
use Rattle.fly_state.specs.declared.entries.Op.{Op}
use Rattle.fly_state.specs.declared.entries.Reply.{Reply}
use Rattle.fly_state.specs.declared.entries.Reply.TheVariants as reply
use Rattle.fly_state.specs.declared.view.View.{View}
use Rattle.fly_state.specs.Plans.{RunPlan}
use Rattle.fly_world.specs.declared.called.Called.{Called}
use Rattle.fly_world.specs.declared.work.Work.{Work}
use Rattle.fly_world.specs.World.{World, execution_named, view_of}
use Rattle.fly_world.specs.Work.{work_of}
use Rattle.fly_world.specs.Journals.{Step}

-- the view of the version that was read
abbrev pub view_read : World → Reply → Option View
view_read w (reply.Viewed exec version current) = option_map (λ at. view_of w at version) (execution_named w exec)
view_read w _ = None

-- the work of the attempt that was claimed
abbrev pub work_claimed : RunPlan → World → Reply → Option Work
work_claimed plan w (reply.Claimed name) = work_of plan w name
work_claimed plan w _ = None

-- it has what was read and what was claimed
pub record HasAll (c : Called) (viewed : Option View) (claimed : Option Work) : Type 0 where
  pub view : c.view ≡ viewed
  pub work : c.work ≡ claimed
  pub whole : c.short ≡ false

-- the copy of what was read or claimed found no memory
pub record HasNone (c : Called) (viewed : Option View) (claimed : Option Work) : Type 0 where
  pub wanted : IsTrue (is_some viewed || is_some claimed)
  pub view : c.view ≡ None
  pub work : c.work ≡ None
  pub short : c.short ≡ true

abbrev pub entry_of : ℕ → Op → Reply → Entry
entry_of worker o r = record { worker = worker; op = o; reply = r }

-- the call of a worker with an operation
pub record IsCalled (plan : RunPlan) (w new : World) (worker : ℕ) (o : Op) (c : Called) : Type 0 where
  pub step : Step plan w (entry_of worker o c.reply) new
  pub place : c.place ≡ length w.entries
  pub told : HasAll c (view_read new c.reply) (work_claimed plan new c.reply)
      ⊎ HasNone c (view_read new c.reply) (work_claimed plan new c.reply)
