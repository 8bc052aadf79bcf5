-- What the store of a run is: its plan, the hash of the closure for which it began, its lists and its room; and what an
-- entry from elsewhere makes of it.
use Rattle.std.specs.Prelude.{◌≡◌, ◌≢◌, ◌⊎◌, ℕ, ◌-◌, List, length, true, Option, Some, None, Result, Ok, Err, ⊤}
use Rattle.fly_state.specs.declared.entries.Entry.{Entry}
use Rattle.fly_state.specs.Plans.{RunPlan}
use Rattle.fly_world.specs.declared.admission.AdmitFault.{AdmitFault}
use Rattle.fly_world.specs.declared.admission.AdmitFault.TheVariants as fault
use Rattle.fly_world.specs.World.{World, is_launched}
use Rattle.fly_world.specs.declared.world.Prepared.{Prepared}
use Rattle.fly_state.specs.declared.entries.Op.{Op}
use Rattle.fly_state.specs.declared.entries.Reply.{Reply}
use Rattle.fly_state.specs.declared.entries.Reply.TheVariants as reply
use Rattle.fly_world.specs.declared.answers.Answer as told
use Rattle.fly_world.specs.declared.answers.Change as made
use Rattle.fly_world.specs.declared.answers.Change.TheVariants as change
use Rattle.fly_world.specs.Answers.{change_of}
use Rattle.fly_world.specs.Changes.{with_entry}
use Rattle.fly_world.specs.Called.{entry_of}
use Rattle.fly_world.specs.Steps.{Answer}
use Rattle.fly_world.specs.Store.{StoreLists}
use Rattle.fly_world.specs.Journals.{IsHistory, Step, begun_world}

pub record Kept : Type 0 where
  pub plan : RunPlan
  pub closure : List ℕ
  pub world : World
  pub spare : ℕ

-- the store that has begun, without room for more
abbrev pub begun : RunPlan → List ℕ → Kept
begun plan closure = record { plan = plan; closure = closure; world = begun_world closure; spare = 0 }

-- the store as its tables have it, with the hash
abbrev pub kept_in : List ℕ → StoreLists → Kept
kept_in closure s = record { plan = s.plan; closure = closure; world = s.world; spare = s.spare }

-- its entries are a legal journal of its plan, which leaves its lists
abbrev pub IsLegal : Kept → Type 0
IsLegal k = IsHistory k.plan k.closure k.world.entries k.world

-- the store in another world, with room for one entry less
abbrev pub moved_to : Kept → World → Kept
moved_to k w = record k { world = w; spare = k.spare - 1 }

-- the entry leads nowhere
abbrev pub IsIllegal : Kept → Entry → Type 0
IsIllegal k e = (w : World) → Step k.plan k.world e w → ⊥

-- An entry that is a step was added; one that is none was refused with its place; or memory was wanting. Only what was
-- added changes the store.
abbrev pub Admits : Kept → Entry → Kept → Result (Unit {0}) AdmitFault → Type 0
Admits old e new (Ok _) = Step old.plan old.world e new.world × (new ≡ moved_to old new.world)
Admits old e new (Err (fault.IllegalEntry place)) = (place ≡ length old.world.entries) × IsIllegal old e × (new ≡ old)
Admits old e new (Err fault.NoMemory) = new ≡ old

-- a worker's operation was added as an entry that is a step, with this reply
pub record Takes (old : Kept) (worker : ℕ) (o : Op) (new : Kept) (r : Reply) : Type 0 where
  pub step : Step old.plan old.world (entry_of worker o r) new.world
  pub moved : new ≡ moved_to old new.world

-- Twice the reply of a step of the operation, whose change was made; the entry is not there yet.
pub record IsReplied (old : StoreLists) (worker : ℕ) (o : Op) (new : StoreLists) (replies : Reply × Reply) : Type 0 where
  pub twice : replies.1 ≡ replies.0
  pub step : Step old.plan old.world (entry_of worker o replies.0)
      (with_entry new.world (entry_of worker o replies.0))
  pub rest : new ≡ record old { world = new.world }

-- The change of an entry with this reply: the answer's with its reply, and none with want of memory. There is no change
-- where the reply is another.
abbrev pub IsChangeBy : told.Answer → Reply → Option made.Change → Type 0
IsChangeBy a r None = (r ≢ a.reply) × (r ≢ reply.NoMemory)
IsChangeBy a r (Some c) = ((r ≡ a.reply) × (c ≡ a.change)) ⊎ ((r ≡ reply.NoMemory) × (c ≡ change.Nothing))

-- twice the reply of the answer, and its change
abbrev pub IsPrepared : StoreLists → Option Answer → Prepared → Type 0
IsPrepared s None p = ⊥
IsPrepared s (Some a) p = (p.replies ≡ (a.reply, a.reply)) × (change_of s.plan s.world p.change ≡ a.change)

-- the attempt that a reply hands out is launched
abbrev pub IsLaunchedReply : World → Reply → Type 0
IsLaunchedReply w (reply.Claimed name) = is_launched w name ≡ true
IsLaunchedReply w _ = ⊤
