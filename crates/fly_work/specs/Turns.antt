-- Turns in a journal: entries of one worker, at rising places, that are the calls of a turn; and what a list of calls tells.
use Rattle.std.specs.Prelude.{◌≡◌, ◌<◌, ℕ, ℤ, Bool, true, false, List, [], ◌∷◌, filter, flat_map, slice_get, All, AllPairs, Some}
use Rattle.std.specs.List.{list_any}
use Rattle.fly_ports.specs.Clock.{ClockState, Gives}
use Rattle.fly_policy.specs.declared.outcome.Outcome.{Outcome}
use Rattle.fly_state.specs.declared.entries.Entry.{Entry}
use Rattle.fly_state.specs.declared.entries.Op.{Op}
use Rattle.fly_state.specs.declared.entries.Op.TheVariants as op
use Rattle.fly_state.specs.declared.entries.Reply.{Reply}
use Rattle.fly_state.specs.declared.entries.Reply.TheVariants as reply
use Rattle.fly_state.specs.Plans.{RunPlan}
use Rattle.fly_world.specs.Called.{entry_of}
use Rattle.fly_round.specs.declared.told.Told.{Told}
use Rattle.fly_work.specs.Stages.{Turn, Stage, starting, Goes}

-- the entry of a worker's call
abbrev pub call_entry : ℕ → Told → Entry
call_entry worker c = entry_of worker c.op c.reply

-- Calls of a turn, as far as a stage, in a journal that is legal for a plan and the hash of its closure.
pub record IsTurn (plan : RunPlan) (closure : List ℕ) (journal : List Entry) (t : Turn) (calls : List Told) (at : Stage) : Type 0 where
  pub there : All (λ (c : Told). slice_get journal c.place ≡ Some (call_entry t.worker c)) calls
  pub rising : AllPairs (λ (a b : Told). a.place < b.place) calls
  pub goes : Goes plan closure journal t starting calls at

-- ---- what calls tell

abbrev pub ticks_by : Op → List ℤ
ticks_by (op.Tick now) = now ∷ []
ticks_by _ = []

-- what the clock showed in them
abbrev pub ticks_of : List Told → List ℤ
ticks_of calls = flat_map (λ (c : Told). ticks_by c.op) calls

-- the clock gave these moments, one after another
abbrev pub GivesAll : ClockState → ClockState → List ℤ → Type 0
GivesAll old new [] = new ≡ old
GivesAll old new (moment ∷ moments) = (next : ClockState) × Gives old next moment × GivesAll next new moments

abbrev pub outcomes_by : Op → List Outcome
outcomes_by (op.Finish name o) = o ∷ []
outcomes_by _ = []

-- the outcomes that they hand in
abbrev pub outcomes_of : List Told → List Outcome
outcomes_of calls = flat_map (λ (c : Told). outcomes_by c.op) calls

abbrev pub is_claimed_reply : Reply → Bool
is_claimed_reply (reply.Claimed name) = true
is_claimed_reply _ = false

abbrev pub is_claim : Told → Bool
is_claim c = is_claimed_reply c.reply

-- the claims that were answered with an attempt
abbrev pub claims_of : List Told → List Told
claims_of calls = filter is_claim calls

abbrev pub is_idle_reply : Reply → Bool
is_idle_reply reply.Idle = true
is_idle_reply _ = false

-- a read was answered that every execution is over
abbrev pub is_idle : List Told → Bool
is_idle calls = list_any (λ (c : Told). is_idle_reply c.reply) calls

abbrev pub is_read_op : Op → Bool
is_read_op (op.Read from back) = true
is_read_op _ = false

-- the reads among them
abbrev pub reads_of : List Told → List Told
reads_of calls = filter (λ (c : Told). is_read_op c.op) calls
