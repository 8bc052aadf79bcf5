-- How far a store has come: a number that no entry lowers, and that each turn without lag raises.
use Rattle.std.specs.Prelude.{◌≡◌, ◌≤◌, ◌<◌, ◌&&◌, ◌==◌, ℕ, ◌+◌, ◌*◌, false, true, Bool, List, length, sum_by, count_by, bytes_eq, None}
use Rattle.std.specs.List.{list_any, enumerate_from, range_with_len}
use Rattle.fly_types.specs.declared.text.Text.{Text}
use Rattle.fly_docs.specs.declared.workflow.Workflow.{Workflow}
use Rattle.fly_docs.specs.Plans.{PlanNode}
use Rattle.fly_state.specs.declared.entries.Entry.{Entry}
use Rattle.fly_state.specs.declared.phase.Phase.{Phase}
use Rattle.fly_state.specs.declared.phase.Phase.TheVariants as phase
use Rattle.fly_state.specs.Moves.{attempt_limit, same_item}
use Rattle.fly_state.specs.PlanTables.{IsOuterPlan}
use Rattle.fly_state.specs.Plans.{RunPlan, Path, same_path}
use Rattle.fly_state.specs.States.{own_state, is_final}
use Rattle.fly_world.specs.World.{World, Execution, Claim, unsettled}
use Rattle.fly_world.specs.Journals.{IsHistory, Leads}
use Rattle.fly_world.specs.Kept.{Kept, IsLegal}
use Rattle.fly_round.specs.declared.told.Told.{Told}
use Rattle.fly_work.specs.Stages.{Turn, over, read_back}
use Rattle.fly_work.specs.Turns.{IsTurn, is_idle}
use Rattle.fly_work.specs.Playing.{AddsCalls}
use Rattle.fly_work.specs.Bounds.{world_bound}
use Rattle.fly_work.specs.Drives.{IsUncached}

-- ---- slots

-- by its phase and its attempt, of so many
abbrev pub slot_progress : ℕ → ℕ → Phase → ℕ
slot_progress limit attempt phase.NotYetStarted = 0
slot_progress limit attempt phase.Queued = 1
slot_progress limit attempt phase.Running = 2 + 2 * attempt
slot_progress limit attempt phase.RetryableFailure = 3 + 2 * attempt
slot_progress limit attempt phase.Succeeding = 1 + 2 * limit
slot_progress limit attempt _ = 2 + 2 * limit

-- the claim is of this attempt of a node
abbrev pub is_claim_of : Text → Path → ℕ → Claim → Bool
is_claim_of exec path attempt c =
    bytes_eq exec c.name.exec && same_path path c.name.path && same_item None c.name.item && attempt == c.name.attempt

-- how many of the attempts of a node were claimed
abbrev pub claimed_count : World → Text → Path → ℕ → ℕ
claimed_count w exec path limit = count_by (λ k. list_any (is_claim_of exec path k) w.claims) (range_with_len 0 limit)

abbrev pub node_progress : RunPlan → World → Execution → ℕ × PlanNode → ℕ
node_progress plan w x at =
    let limit = attempt_limit plan at.1 in
    slot_progress limit (own_state x.state at.0).attempt (own_state x.state at.0).phase + claimed_count w x.name at.1.path limit

-- the root is over, or not
abbrev pub root_progress : Phase → ℕ
root_progress f = by (is_final f)
  where
    by : Bool → ℕ
    by true = 1
    by false = 0

abbrev pub execution_progress : RunPlan → World → Execution → ℕ
execution_progress plan w x = root_progress x.state.root.phase + sum_by (node_progress plan w x) (enumerate_from 0 plan.nodes)

abbrev pub progress : RunPlan → World → ℕ
progress plan w = sum_by (execution_progress plan w) w.executions

-- ---- laws, for plans of task nodes in one workflow

-- no entry of a legal journal takes progress back
abbrev pub ProgressStays : Type 0
ProgressStays =
    (plan : RunPlan) (f : Workflow) (closure : List ℕ) (journal entries : List Entry) (w new : World) → IsOuterPlan plan f
    → IsHistory plan closure journal w → Leads plan w entries new
    → progress plan w ≤ progress plan new

-- it has a bound
abbrev pub ProgressIsBounded : Type 0
ProgressIsBounded =
    (plan : RunPlan) (f : Workflow) (closure : List ℕ) (journal : List Entry) (w : World) → IsOuterPlan plan f
    → IsHistory plan closure journal w
    → progress plan w ≤ world_bound plan w

-- the bound does not change by the calls of turns
abbrev pub BoundStays : Type 0
BoundStays =
    (f : Workflow) (t : Turn) (old new : Kept) (calls : List Told) → IsOuterPlan old.plan f → IsLegal old → IsLegal new
    → AddsCalls old new t.worker calls → IsTurn old.plan old.closure new.world.entries t calls over
    → (length new.world.executions ≡ length old.world.executions) × (world_bound old.plan new.world ≡ world_bound old.plan old.world)

-- behind a whole turn of a worker that acts alone no claimed attempt is without an outcome, where none was before it
abbrev pub TurnsSettle : Type 0
TurnsSettle =
    (f : Workflow) (t : Turn) (old new : Kept) (calls : List Told) → IsOuterPlan old.plan f → IsLegal old → IsLegal new
    → AddsCalls old new t.worker calls → IsTurn old.plan old.closure new.world.entries t calls over
    → unsettled old.world ≡ None → unsettled new.world ≡ None

-- a whole turn of a worker that acts alone makes progress, where it reads the current version of an execution that is not over, and no task
-- is cached
abbrev pub TurnsProgress : Type 0
TurnsProgress =
    (f : Workflow) (t : Turn) (old new : Kept) (calls : List Told) → IsOuterPlan old.plan f → IsUncached old.plan → IsLegal old → IsLegal new
    → AddsCalls old new t.worker calls → IsTurn old.plan old.closure new.world.entries t calls over
    → unsettled old.world ≡ None → read_back t ≡ 0 → is_idle calls ≡ false
    → progress old.plan old.world < progress old.plan new.world
