-- How a turn goes on: by the stages between its calls, each of which says what is called next.
use Rattle.std.specs.Prelude.{◌≡◌, ℕ, ◌+◌, ◌/◌, ◌%◌, List, [], ◌∷◌, ◌++◌, take, Option, Some, None, ⊤}
use Rattle.fly_state.specs.declared.entries.Entry.{Entry}
use Rattle.fly_state.specs.declared.entries.Op.{Op}
use Rattle.fly_state.specs.declared.entries.Op.TheVariants as op
use Rattle.fly_state.specs.declared.entries.Reply.{Reply}
use Rattle.fly_state.specs.declared.entries.Reply.TheVariants as reply
use Rattle.fly_state.specs.declared.moves.Move.{Move}
use Rattle.fly_state.specs.declared.view.View.{View}
use Rattle.fly_state.specs.Plans.{RunPlan}
use Rattle.fly_world.specs.declared.work.Work.{Work}
use Rattle.fly_world.specs.World.{World}
use Rattle.fly_world.specs.Called.{view_read, work_claimed}
use Rattle.fly_world.specs.Journals.{IsHistory}
use Rattle.fly_round.specs.declared.told.Told.{Told}
use Rattle.fly_round.specs.Questions.{Question, Asks, next_question}
use Rattle.fly_round.specs.Moves.{round_moves}

-- ---- turns

-- A turn: its worker, its number among that worker's turns, how many executions it goes around, and the most versions
-- that it may look back.
pub record Turn : Type 0 where
  pub worker : ℕ
  pub number : ℕ
  pub executions : ℕ
  pub lag : ℕ

-- the execution from which it looks for one that is not over
abbrev pub read_from : Turn → ℕ
read_from t = (t.number + t.worker) % t.executions

-- how many versions it looks back: for as many turns as there are executions none, then one, and so on around
abbrev pub read_back : Turn → ℕ
read_back t = (t.number / t.executions) % (t.lag + 1)

-- ---- stages

-- Where a turn is: before its first tick, before its sweep, before its read; in the round over a view by what was told;
-- behind its Write; while the child of a claimed attempt runs, and once it has ended; at its end; or cut off, where a
-- call found no memory.
pub data Stage : Type 0 where
  starting : Stage
  sweeping : Stage
  reading : Stage
  asking : View → List Told → Stage
  claiming : Stage
  running : Work → Stage
  finishing : Work → Stage
  over : Stage
  cut : Stage

-- ---- what is called next

-- with these moves of the round over the view: its Write where there are some, and else a claim
abbrev pub closing_op : View → List Move → Op
closing_op v [] = op.Claim
closing_op v (m ∷ ms) = op.Write v.name v.version (m ∷ ms)

-- the question of the round, and behind all questions what its moves ask for
abbrev pub IsDueInRound : RunPlan → View → List Told → Option Question → Op → Type 0
IsDueInRound plan v told (Some q) o = Asks v.name q o
IsDueInRound plan v told None o = o ≡ closing_op v (round_moves plan v told)

-- the operation comes next
abbrev pub IsDue : RunPlan → Turn → Stage → Op → Type 0
IsDue plan t starting (op.Tick now) = ⊤
IsDue plan t sweeping op.Sweep = ⊤
IsDue plan t reading (op.Read from back) = (from ≡ read_from t) × (back ≡ read_back t)
IsDue plan t (asking v told) o = IsDueInRound plan v told (next_question plan v told) o
IsDue plan t claiming op.Claim = ⊤
IsDue plan t (running work) (op.Tick now) = ⊤
IsDue plan t (finishing work) (op.Finish name o) = name ≡ work.name
IsDue plan t _ _ = ⊥

-- ---- what comes of a call

-- what a read or a claim at this place of the journal gives: the journal up to it leaves a world that has it
abbrev pub IsGiven : {X : Type 0} → RunPlan → List ℕ → List Entry → (World → Reply → Option X) → Told → X → Type 0
IsGiven plan closure journal given c x =
    (w : World) × IsHistory plan closure (take (c.place + 1) journal) w × (given w c.reply ≡ Some x)

abbrev pub IsViewRead : RunPlan → List ℕ → List Entry → Told → View → Type 0
IsViewRead plan closure journal = IsGiven plan closure journal view_read

abbrev pub IsWorkClaimed : RunPlan → List ℕ → List Entry → Told → Work → Type 0
IsWorkClaimed plan closure journal = IsGiven plan closure journal (work_claimed plan)

-- behind a read
abbrev pub AfterRead : RunPlan → List ℕ → List Entry → Told → Reply → Stage → Type 0
AfterRead plan closure journal c reply.Idle next = next ≡ over
AfterRead plan closure journal c (reply.Viewed exec version current) next =
    (v : View) × IsViewRead plan closure journal c v × (next ≡ asking v [])
AfterRead plan closure journal c _ next = ⊥

-- behind a claim
abbrev pub AfterClaim : RunPlan → List ℕ → List Entry → Told → Reply → Stage → Type 0
AfterClaim plan closure journal c reply.Nothing next = next ≡ over
AfterClaim plan closure journal c (reply.Claimed name) next =
    (work : Work) × IsWorkClaimed plan closure journal c work × (next ≡ running work)
AfterClaim plan closure journal c _ next = ⊥

-- behind a call of the round, its Write and the claim among them
abbrev pub AfterAsked : RunPlan → List ℕ → List Entry → View → List Told → Told → Op → Stage → Type 0
AfterAsked plan closure journal v told c (op.Write exec base moves) next = next ≡ claiming
AfterAsked plan closure journal v told c op.Claim next = AfterClaim plan closure journal c c.reply next
AfterAsked plan closure journal v told c _ next = next ≡ asking v (told ++ c ∷ [])

-- behind a call that found its memory
abbrev pub After : RunPlan → List ℕ → List Entry → Stage → Told → Stage → Type 0
After plan closure journal starting c next = next ≡ sweeping
After plan closure journal sweeping c next = next ≡ reading
After plan closure journal reading c next = AfterRead plan closure journal c c.reply next
After plan closure journal (asking v told) c next = AfterAsked plan closure journal v told c c.op next
After plan closure journal claiming c next = AfterClaim plan closure journal c c.reply next
After plan closure journal (running work) c next = next ≡ finishing work
After plan closure journal (finishing work) c next = next ≡ over
After plan closure journal over c next = ⊥
After plan closure journal cut c next = ⊥

-- the call leads from the one stage to the other; where it found no memory, the turn is cut off
abbrev pub Passes : RunPlan → List ℕ → List Entry → Stage → Told → Stage → Type 0
Passes plan closure journal at c next = by c.reply
  where
    by : Reply → Type 0
    by reply.NoMemory = next ≡ cut
    by _ = After plan closure journal at c next

-- the calls lead from the one stage to the other, each of them due
abbrev pub Goes : RunPlan → List ℕ → List Entry → Turn → Stage → List Told → Stage → Type 0
Goes plan closure journal t at [] end = end ≡ at
Goes plan closure journal t at (c ∷ cs) end =
    (next : Stage) × IsDue plan t at c.op × Passes plan closure journal at c next
    × Goes plan closure journal t next cs end
