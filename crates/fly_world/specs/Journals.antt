-- Journals: which lists of entries are legal, and the world that they leave.
use Rattle.std.specs.Prelude.{◌≡◌, ◌⊎◌, ℕ, Bool, true, false, List, [], ◌∷◌, Option, Some, None}
use Rattle.fly_state.specs.declared.entries.Entry.{Entry}
use Rattle.fly_state.specs.declared.entries.Op.{Op}
use Rattle.fly_state.specs.declared.entries.Op.TheVariants as op
use Rattle.fly_state.specs.declared.entries.Reply.TheVariants as reply
use Rattle.fly_state.specs.Plans.{RunPlan}
use Rattle.fly_world.specs.World.{World, empty_world}
use Rattle.fly_world.specs.Changes.{with_change, with_entry}
use Rattle.fly_world.specs.Steps.{Answer, step}

abbrev pub is_begin : Op → Bool
is_begin (op.Begin closure) = true
is_begin _ = false

-- the entry has this reply, and its change was made
pub record IsAnswered (w : World) (e : Entry) (new : World) (a : Answer) : Type 0 where
  pub reply : e.reply ≡ a.reply
  pub world : new ≡ with_entry (with_change w a.change) e

-- memory was wanting, for any operation but a beginning: nothing but the entry is added
pub record IsRefused (w : World) (e : Entry) (new : World) : Type 0 where
  pub later : is_begin e.op ≡ false
  pub reply : e.reply ≡ reply.NoMemory
  pub world : new ≡ with_entry w e

-- by the answer to the entry's operation; without one the entry is illegal
abbrev pub IsStepBy : World → Entry → World → Option Answer → Type 0
IsStepBy w e new None = ⊥
IsStepBy w e new (Some a) = IsAnswered w e new a ⊎ IsRefused w e new

-- the entry leads from one world to the other
abbrev pub Step : RunPlan → World → Entry → World → Type 0
Step plan w e new = IsStepBy w e new (step plan w e.worker e.op)

-- the entries lead from one world to the other, one after another
abbrev pub Leads : RunPlan → World → List Entry → World → Type 0
Leads plan w [] new = new ≡ w
Leads plan w (e ∷ es) new = (next : World) × Step plan w e next × Leads plan next es new

-- the first entry of a journal: worker 0 begins for the closure of this hash
abbrev pub beginning : List ℕ → Entry
beginning closure = record { worker = 0; op = op.Begin closure; reply = reply.Begun }

-- A journal that is legal for a closure, given by its plan and its hash, and the world that it leaves.
pub record IsHistory (plan : RunPlan) (closure : List ℕ) (journal : List Entry) (w : World) : Type 0 where
  pub later : List Entry
  pub begins : journal ≡ beginning closure ∷ later
  pub leads : Leads plan empty_world journal w

abbrev pub IsLegalJournal : RunPlan → List ℕ → List Entry → Type 0
IsLegalJournal plan closure journal = (w : World) × IsHistory plan closure journal w

-- the world in which a run has begun, and nothing else
abbrev pub begun_world : List ℕ → World
begun_world closure = with_entry empty_world (beginning closure)
