-- The laws of journals and of the worlds that they leave.
use Rattle.std.specs.Prelude.{◌≡◌, ◌≢◌, ◌⊎◌, ℕ, ◌+◌, ◌≤ℤ◌, true, List, [], ◌∷◌, ◌++◌, map, fold, pos, slice_get, AllPairs, All, Contains, Some}
use Rattle.fly_types.specs.declared.text.Text.{Text}
use Rattle.std.specs.Int.{int_max}
use Rattle.fly_docs.specs.declared.dataset.DatasetId.{DatasetId}
use Rattle.fly_docs.specs.declared.submission.Submission.{Submission}
use Rattle.fly_docs.specs.declared.attempt_name.AttemptName.{AttemptName}
use Rattle.fly_docs.specs.declared.workflow.Workflow.{Workflow}
use Rattle.fly_docs.specs.Plans.{PlanNode}
use Rattle.fly_policy.specs.declared.outcome.Outcome.{Outcome}
use Rattle.fly_policy.specs.Timeouts.{IsExpired}
use Rattle.fly_catalog.specs.declared.parts.Reservation.{Reservation}
use Rattle.fly_catalog.specs.Requests.{reservation_of}
use Rattle.fly_state.specs.declared.entries.Entry.{Entry}
use Rattle.fly_state.specs.declared.entries.Op.{Op}
use Rattle.fly_state.specs.declared.entries.Op.TheVariants as op
use Rattle.fly_state.specs.declared.entries.Reply.TheVariants as reply
use Rattle.fly_state.specs.declared.moves.Move.{Move}
use Rattle.fly_state.specs.declared.slots.SlotState.{SlotState}
use Rattle.fly_state.specs.declared.moves.At.{At}
use Rattle.fly_state.specs.declared.slots.ExecState.{ExecState}
use Rattle.fly_state.specs.Plans.{RunPlan}
use Rattle.fly_state.specs.PlanTables.{IsOuterPlan}
use Rattle.fly_state.specs.States.{is_final}
use Rattle.fly_state.specs.Laws.{slot_at}
use Rattle.fly_state.specs.Rounds.{IsRound, state_after}
use Rattle.fly_world.specs.World.{World, Execution, Past, Launch, Claim, Settlement, current_of, execution_named, claim_of, outcome_of, current_view, view_of}
use Rattle.fly_world.specs.Changes.{adds_version, with_change, with_entry}
use Rattle.fly_world.specs.Steps.{cited_move}
use Rattle.fly_world.specs.ReadOff.{versions_of, submissions_in, launched_in, claimed_in, settled_in, ticks_in}
use Rattle.fly_world.specs.Spots.{timeout_of, is_ended}
use Rattle.fly_world.specs.Versions.{HasTypedRecords, HasNamesOfPlan, HasShapedVersions, IsNodeOfAttempt, IsWorldOfPlan}
use Rattle.fly_world.specs.Journals.{Step, Leads, IsHistory, IsLegalJournal, beginning}

-- ---- one world

-- a journal leaves one world
abbrev pub LeavesOneWorld : Type 0
LeavesOneWorld =
    (plan : RunPlan) (closure : List ℕ) (journal : List Entry) (w v : World) → IsHistory plan closure journal w
    → IsHistory plan closure journal v
    → w ≡ v

-- A front of a journal is legal, and what stands behind it leads on from its world.
pub record IsPrefix (plan : RunPlan) (closure : List ℕ) (front back : List Entry) (w : World) : Type 0 where
  pub world : World
  pub front_is : IsHistory plan closure (beginning closure ∷ front) world
  pub back_leads : Leads plan world back w

-- each prefix of a legal journal that has its first entry is legal
abbrev pub PrefixesAreLegal : Type 0
PrefixesAreLegal =
    (plan : RunPlan) (closure : List ℕ) (front back : List Entry) (w : World)
    → IsHistory plan closure (beginning closure ∷ front ++ back) w → IsPrefix plan closure front back w

-- one step more
abbrev pub StepsExtend : Type 0
StepsExtend =
    (plan : RunPlan) (closure : List ℕ) (journal : List Entry) (w new : World) (e : Entry)
    → IsHistory plan closure journal w
    → Step plan w e new → IsHistory plan closure (journal ++ e ∷ []) new

-- ---- what a world tells of its journal

abbrev pub AreDistinct : List AttemptName → Type 0
AreDistinct names = AllPairs (λ a b. a ≢ b) names

abbrev pub submission_of : Execution → Submission
submission_of x = record { name = x.name; inputs = x.inputs }

abbrev pub settlement_of : Settlement → AttemptName × Outcome
settlement_of s = (s.name, s.outcome)

-- the world's lists are those that its journal tells, in order, and its moment is the greatest of 0 and what clocks
-- showed
pub record TellsJournal (journal : List Entry) (w : World) : Type 0 where
  pub entries : w.entries ≡ journal
  pub submitted : map submission_of w.executions ≡ submissions_in journal
  pub launched : map (λ (l : Launch). l.name) w.launches ≡ launched_in journal
  pub claimed : map (λ (c : Claim). c.name) w.claims ≡ claimed_in journal
  pub settled : map settlement_of w.outcomes ≡ settled_in journal
  pub moment : w.moment ≡ fold int_max (pos 0) (ticks_in journal)

abbrev pub WorldsTellJournals : Type 0
WorldsTellJournals =
    (plan : RunPlan) (closure : List ℕ) (journal : List Entry) (w : World) → IsHistory plan closure journal w
    → TellsJournal journal w

-- the names of the attempts that a journal settles
abbrev pub settled_names : List Entry → List AttemptName
settled_names journal = map (λ (r : AttemptName × Outcome). r.0) (settled_in journal)

-- No attempt is launched, claimed or settled twice; what is settled was claimed, and what is claimed was launched.
pub record HasSingleLaunches (journal : List Entry) : Type 0 where
  pub launched : AreDistinct (launched_in journal)
  pub claimed : AreDistinct (claimed_in journal)
  pub claimed_launched : All (Contains (launched_in journal)) (claimed_in journal)
  pub settled : AreDistinct (settled_names journal)
  pub settled_claimed : All (Contains (claimed_in journal)) (settled_names journal)

abbrev pub LaunchesAreSingle : Type 0
LaunchesAreSingle = (plan : RunPlan) (closure : List ℕ) (journal : List Entry) → IsLegalJournal plan closure journal
    → HasSingleLaunches journal

-- ---- what stays

-- whatever entries follow, what an attempt came to stays
abbrev pub OutcomesStay : Type 0
OutcomesStay =
    (plan : RunPlan) (w new : World) (entries : List Entry) (name : AttemptName) (o : Outcome)
    → Leads plan w entries new
    → outcome_of w name ≡ Some o → outcome_of new name ≡ Some o

-- whatever entries follow, the moment is no earlier
abbrev pub MomentsNeverFall : Type 0
MomentsNeverFall = (plan : RunPlan) (w new : World) (entries : List Entry) → Leads plan w entries new
    → w.moment ≤ℤ new.moment

-- The execution of the number as it stands later: under its name, with its inputs, and with its versions before any
-- that came since.
pub record StandsLater (x : Execution) (new : World) (number : ℕ) : Type 0 where
  pub later : Execution
  pub there : slice_get new.executions number ≡ Some later
  pub name : later.name ≡ x.name
  pub inputs : later.inputs ≡ x.inputs
  pub past : List Past
  pub past_is : later.past ≡ x.past ++ past
  pub since : List ExecState
  pub versions_are : versions_of later ≡ versions_of x ++ since

-- whatever entries follow, an execution keeps its number, its name, its inputs and its versions
abbrev pub VersionsStay : Type 0
VersionsStay =
    (plan : RunPlan) (w new : World) (entries : List Entry) (number : ℕ) (x : Execution) → Leads plan w entries new
    → slice_get w.executions number ≡ Some x → StandsLater x new number

-- after a legal journal, whatever entries follow, a slot that is final stands as it is in the execution's current
-- version
abbrev pub FinalSlotsStay : Type 0
FinalSlotsStay =
    (plan : RunPlan) (closure : List ℕ) (journal entries : List Entry) (w new : World) (number : ℕ) (x : Execution)
    (at : At) (slot : SlotState)
    → IsHistory plan closure journal w → Leads plan w entries new
    → slice_get w.executions number ≡ Some x → slot_at x.state at ≡ Some slot → is_final slot.phase ≡ true
    → (y : Execution) × (slice_get new.executions number ≡ Some y) × (slot_at y.state at ≡ Some slot)

-- in the world that a legal journal leaves, executions have ids as names, no two the same, and what is launched is an
-- attempt of theirs
abbrev pub NamesAreOfPlan : Type 0
NamesAreOfPlan =
    (plan : RunPlan) (closure : List ℕ) (journal : List Entry) (w : World) → IsHistory plan closure journal w
    → HasNamesOfPlan plan w

-- in the world that a legal journal leaves, each version has its shape
abbrev pub VersionsAreShaped : Type 0
VersionsAreShaped =
    (plan : RunPlan) (closure : List ℕ) (journal : List Entry) (w : World) → IsHistory plan closure journal w
    → HasShapedVersions plan w

-- in the world that a legal journal leaves, what was submitted and what was recorded is of its declared type
abbrev pub RecordsAreTyped : Type 0
RecordsAreTyped =
    (plan : RunPlan) (closure : List ℕ) (journal : List Entry) (w : World) → IsHistory plan closure journal w
    → HasTypedRecords plan w

-- in the world that a legal journal leaves, for a plan of task nodes: each version and each view is of the plan
abbrev pub WorldsAreOfPlan : Type 0
WorldsAreOfPlan =
    (plan : RunPlan) (f : Workflow) (closure : List ℕ) (journal : List Entry) (w : World) → IsOuterPlan plan f
    → IsHistory plan closure journal w
    → IsWorldOfPlan plan w

-- The attempt was claimed, and at the moment its time is over.
pub record IsTimeout (plan : RunPlan) (w : World) (name : AttemptName) : Type 0 where
  pub claim : Claim
  pub claimed : claim_of w name ≡ Some claim
  pub node : PlanNode
  pub is_node : IsNodeOfAttempt plan name node
  pub due : IsExpired claim.moment (timeout_of plan node) w.moment

abbrev pub expired_entry : ℕ → Op → Entry
expired_entry worker o = record { worker = worker; op = o; reply = reply.Expired }

-- an attempt times out, by whichever operation, only where its time is over
pub record TimeoutsAreDue : Type 0 where
  pub expire : (plan : RunPlan) (w new : World) (worker : ℕ) (name : AttemptName)
      → Step plan w (expired_entry worker (op.Expire name)) new
      → IsTimeout plan w name
  pub finish : (plan : RunPlan) (w new : World) (worker : ℕ) (name : AttemptName) (o : Outcome)
      → Step plan w (expired_entry worker (op.Finish name o)) new → IsTimeout plan w name

-- ---- reservations

-- the owner has the reservation of the key, be it extended
abbrev pub IsStillHeld : World → DatasetId → Text → Text → Type 0
IsStillHeld w d tag owner = (q : Reservation) × (reservation_of w.catalog d tag ≡ Some q) × (q.owner ≡ owner)

-- the entry is a sweep, and the owner had ended
abbrev pub IsLetGo : RunPlan → World → Entry → Reservation → Type 0
IsLetGo plan w e r = (e.op ≡ op.Sweep) × (is_ended plan w r.owner ≡ true)

-- What comes of a key's reservation at an entry: its owner has it still, a sweep let it go, or its time was over.
abbrev pub PassesOn : RunPlan → World → World → Entry → DatasetId → Text → Reservation → Type 0
PassesOn plan w new e d tag r = IsStillHeld new d tag r.owner ⊎ (IsLetGo plan w e r ⊎ (r.expiry ≤ℤ w.moment))

-- no reservation passes from its owner but so
abbrev pub ReservationsHold : Type 0
ReservationsHold =
    (plan : RunPlan) (w new : World) (e : Entry) (d : DatasetId) (tag : Text) (r : Reservation) → Step plan w e new
    → reservation_of w.catalog d tag ≡ Some r → PassesOn plan w new e d tag r

-- ---- writes

-- A Write that was accepted: its execution is there, its base was the current version, its moves are a round at that
-- version, with the entries
-- that they cite, and they made the next version.
pub record IsRoundOn (plan : RunPlan) (w new : World) (e : Entry) (exec : Text) (base version : ℕ)
    (moves : List Move) : Type 0 where
  pub execution : ℕ × Execution
  pub named : execution_named w exec ≡ Some execution
  pub base_is : base ≡ current_of execution.1
  pub version_is : version ≡ base + 1
  pub round : IsRound plan (current_view w execution) (map (cited_move w) moves)
  pub after : new ≡ with_entry (with_change w
      (adds_version execution (state_after plan (current_view w execution) (map (cited_move w) moves)))) e

abbrev pub WritesAreRounds : Type 0
WritesAreRounds =
    (plan : RunPlan) (w new : World) (worker : ℕ) (exec : Text) (base version : ℕ) (moves : List Move)
    → let e : Entry = record { worker = worker; op = op.Write exec base moves; reply = reply.Written version } in
    Step plan w e new → IsRoundOn plan w new e exec base version moves

-- After a legal journal and an accepted Write, whatever entries follow: the view of the version that the Write ended is that of the world
-- before it, but for the number of the version that is current by then.
abbrev pub ViewsStay : Type 0
ViewsStay =
    (plan : RunPlan) (closure : List ℕ) (journal entries : List Entry) (w mid new : World) (e : Entry) (exec : Text) (base version : ℕ)
    (moves : List Move) (y : Execution) → IsHistory plan closure journal w → (made : IsRoundOn plan w mid e exec base version moves)
    → Leads plan mid entries new → slice_get new.executions made.execution.0 ≡ Some y
    → view_of new (made.execution.0, y) base ≡ record (current_view w made.execution) { current = current_of y }
