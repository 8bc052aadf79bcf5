-- Runs of a plan by one worker, and how they end.
use Rattle.std.specs.Prelude.{◌≡◌, ◌<◌, ℕ, true, List, [], ◌∷◌, ◌++◌, map, flat_map, length, slice_get, All, AllPairs, Contains, Some}
use Rattle.fly_types.specs.declared.text.Text.{Text}
use Rattle.fly_ports.specs.Files.{FilesState}
use Rattle.fly_docs.specs.declared.closure.Closure.{Closure}
use Rattle.fly_docs.specs.declared.submission.Submission.{Submission}
use Rattle.fly_state.specs.declared.phase.Phase.TheVariants as phase
use Rattle.fly_state.specs.declared.entries.Entry.{Entry}
use Rattle.fly_state.specs.declared.entries.Op.TheVariants as op
use Rattle.fly_state.specs.declared.entries.Reply.TheVariants as reply
use Rattle.fly_state.specs.declared.moves.At.{At}
use Rattle.fly_state.specs.declared.moves.Move.{Move}
use Rattle.fly_state.specs.declared.slots.SlotState.{SlotState}
use Rattle.fly_state.specs.Plans.{RunPlan, plan_for}
use Rattle.fly_state.specs.States.{is_final}
use Rattle.fly_state.specs.Laws.{slot_at}
use Rattle.fly_world.specs.World.{World, Execution, are_all_over}
use Rattle.fly_world.specs.Journals.{IsHistory, Leads, beginning}
use Rattle.fly_world.specs.Laws.{IsPrefix, IsRoundOn, HasSingleLaunches}
use Rattle.fly_world.specs.Versions.{IsWorldOfPlan}
use Rattle.fly_history.specs.Laws.{IsPlainlyEvaluated}
use Rattle.fly_round.specs.declared.told.Told.{Told}
use Rattle.fly_work.specs.Children.{Child, RunAll}
use Rattle.fly_work.specs.Stages.{Turn}
use Rattle.fly_work.specs.Turns.{call_entry, GivesAll, ticks_of, claims_of}
use Rattle.fly_work.specs.Playing.{HasChildren}
use Rattle.fly_work.specs.Drives.{AreTurns, EndsIdle, turn_numbered}
use Rattle.fly_opening.specs.Hashes.{closure_hash}
use Rattle.fly_opening.specs.Opening.{opening_entries}
use Rattle.fly_opening.specs.Submissions.{fitted_submission}
use Rattle.fly_keeper.specs.JournalText.{journal_text}
use Rattle.fly_keeper.specs.Gains.{GainsAll, GainsPart, GainsBefore}
use Rattle.fly_app.specs.declared.status.Status.{Status}
use Rattle.fly_app.specs.declared.status.Status.TheVariants as statuses
use Rattle.fly_app.specs.RunWords.{RunRequest}
use Rattle.fly_app.specs.RunOutside.{WorkOutside}

-- ---- one history of single rounds

-- each front of the journal is legal, and what stands behind it leads on from its world
abbrev pub HasLegalFronts : RunPlan → List ℕ → World → Type 0
HasLegalFronts plan hash w =
    (front back : List Entry) → w.entries ≡ beginning hash ∷ front ++ back → IsPrefix plan hash front back w

-- in each front of the journal, and so in all of it, no attempt is launched, claimed or settled twice, what is settled
-- was claimed, and what is claimed was launched
abbrev pub HasSingleFronts : List ℕ → List Entry → Type 0
HasSingleFronts hash entries =
    (front back : List Entry) → entries ≡ beginning hash ∷ front ++ back → HasSingleLaunches (beginning hash ∷ front)

-- The Write that was accepted behind this front is one round on the version that was current in the world before it.
pub record IsRoundBehind (plan : RunPlan) (hash : List ℕ) (front : List Entry) (e : Entry) (exec : Text)
    (base version : ℕ)
    (moves : List Move) : Type 0 where
  pub world : World
  pub next : World
  pub front_is : IsHistory plan hash front world
  pub next_is : IsHistory plan hash (front ++ e ∷ []) next
  pub round : IsRoundOn plan world next e exec base version moves

-- so is each Write of the journal that was accepted
abbrev pub HasRounds : RunPlan → List ℕ → World → Type 0
HasRounds plan hash w =
    (front back : List Entry) (worker : ℕ) (exec : Text) (base version : ℕ) (moves : List Move)
    → let e : Entry = record { worker = worker; op = op.Write exec base moves; reply = reply.Written version } in
    w.entries ≡ front ++ e ∷ back → IsRoundBehind plan hash front e exec base version moves

-- a slot that is final in the version that is current behind a front of the journal stands so, with its outputs and its
-- code, in the version that is current behind any longer front
abbrev pub KeepsFinalSlots : RunPlan → List ℕ → World → Type 0
KeepsFinalSlots plan hash w =
    (front more back : List Entry) (before after : World) (number : ℕ) (x : Execution) (at : At) (slot : SlotState)
    → w.entries ≡ front ++ more ++ back → IsHistory plan hash front before → Leads plan before more after
    → slice_get before.executions number ≡ Some x → slot_at x.state at ≡ Some slot → is_final slot.phase ≡ true
    → (y : Execution) × (slice_get after.executions number ≡ Some y) × (slot_at y.state at ≡ Some slot)

-- ---- runs

-- the calls of turns
abbrev pub calls_of : List (List Told) → List Told
calls_of turns = flat_map (λ calls. calls) turns

-- What a run is set up with: its plan, the hash of its closure, what is submitted, how many versions its worker may
-- look back, and the path of its journal.
pub record RunSetup : Type 0 where
  pub plan : RunPlan
  pub hash : List ℕ
  pub submissions : List Submission
  pub lag : ℕ
  pub journal : List ℕ

-- the run that a request asks for: of the plan of its closure, with the submissions as they fit the inputs
abbrev pub setup_of : RunRequest → Closure → List Submission → RunSetup
setup_of r c s = record {
  plan = plan_for c;
  hash = closure_hash c;
  submissions = map (fitted_submission (plan_for c)) s;
  lag = r.lag;
  journal = r.journal;
}

-- the entries with which it opens
abbrev pub opening_of : RunSetup → List Entry
opening_of run = opening_entries run.hash run.submissions

-- the turns of its worker
abbrev pub turn_of : RunSetup → ℕ → Turn
turn_of run number = turn_numbered (length run.submissions) run.lag number

-- A run, opened and then driven by one worker: its store, the turns of the worker, what the clock showed, and the
-- children that ran.
pub record IsRunOf (run : RunSetup) (before after : WorkOutside) (w : World) : Type 0 where
  -- the entries are one legal journal, and each Write in it is one round
  pub history : IsHistory run.plan run.hash w.entries w
  pub fronts : HasLegalFronts run.plan run.hash w
  pub rounds : HasRounds run.plan run.hash w
  -- they are the opening, and then the calls of turns
  pub turns : List (List Told)
  pub entries : w.entries ≡ opening_of run ++ map (call_entry 0) (calls_of turns)
  pub are_turns : AreTurns run.plan run.hash w.entries (turn_of run) 0 turns
  -- the places of these calls rise through all turns, so each call is the entry of its own place
  pub rising : AllPairs (λ (a b : Told). a.place < b.place) (calls_of turns)
  pub ticks : GivesAll before.clock after.clock (ticks_of (calls_of turns))
  -- a child ran for each claim, or for all but the last
  pub children : List Child
  pub runs : RunAll before.spawner after.spawner children
  pub claimed : HasChildren run.plan run.hash w.entries (calls_of turns) children
  pub single : HasSingleFronts run.hash w.entries
  -- what was submitted, launched and recorded is of its declared type, and so is what stands in each version
  pub typed : IsWorldOfPlan run.plan w
  -- each launch has the inputs that plain evaluation gives its attempt, over what the journal records, and each version
  -- agrees with it
  pub evaluated : IsPlainlyEvaluated run.plan w.entries w
  pub final : KeepsFinalSlots run.plan run.hash w

-- ---- runs to the end

-- each execution has succeeded
abbrev pub AllSucceed : World → Type 0
AllSucceed w = All (λ (x : Execution). x.state.root.phase ≡ phase.Succeeded) w.executions

-- an execution has failed
abbrev pub OneFails : World → Type 0
OneFails w = (x : Execution) × Contains w.executions x × (x.state.root.phase ≡ phase.Failed)

-- the status of a run whose executions are over
abbrev pub HasStatus : World → Status → Type 0
HasStatus w statuses.Done = AllSucceed w
HasStatus w statuses.Failed = OneFails w
HasStatus w _ = ⊥

-- A run that was driven to its end: every execution is over, each claim ran its child, the last turn found nothing to
-- do, and the journal's file got all its lines.
pub record IsFinished (run : RunSetup) (before after : WorkOutside) (w : World) : Type 0 where
  pub made : IsRunOf run before after w
  pub over : are_all_over w ≡ true
  pub ran : length made.children ≡ length (claims_of (calls_of made.turns))
  pub idle : EndsIdle run.plan run.hash w.entries (turn_of run) 0 made.turns
  pub kept : GainsAll before.files after.files run.journal (journal_text run.plan w.entries)

-- ---- runs that broke off

-- What the journal's file got of a run that broke off: of the opening's text a first part, and no turn was made; or all
-- of that text, and of the calls' text a first part with at least all up to the last claim whose child ran.
pub data HasKept (run : RunSetup) (calls : List Told) (ran : ℕ) (old new : FilesState) : Type 0 where
  opening_part : calls ≡ [] → GainsPart old new run.journal (journal_text run.plan (opening_of run))
      → HasKept run calls ran old new
  calls_part : (opened : FilesState) → GainsAll old opened run.journal (journal_text run.plan (opening_of run))
      → GainsBefore run.plan run.journal 0 calls ran opened new → HasKept run calls ran old new

-- A run that broke off, be it before its first turn: what was done until then, and what was kept of it.
pub record IsBrokenOff (run : RunSetup) (before after : WorkOutside) (w : World) : Type 0 where
  pub made : IsRunOf run before after w
  pub kept : HasKept run (calls_of made.turns) (length made.children) before.files after.files
