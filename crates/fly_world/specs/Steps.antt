-- What each operation answers and changes: the first reply whose condition holds. Where an operation may not stand in
-- a journal there is none.
use Rattle.std.specs.Prelude.{ℕ, ◌+◌, ◌-◌, ◌%◌, ◌^◌, ◌==◌, nat_lt, ℤ, pos, Bool, true, false, not, ◌&&◌, ◌||◌, List, [], ◌∷◌, ◌++◌, map, filter_map, take, drop, length, find, position, slice_get, count_by, codes, Option, Some, None, option_and_then, option_to_list, is_some, if◌then◌else◌}
use Rattle.std.specs.Int.{int_min, int_max}
use Rattle.std.specs.Fmt.{decimal}
use Rattle.std.specs.List.{list_any, list_all, enumerate_from}
use Rattle.std.specs.Option.{option_map_or}
use Rattle.fly_types.specs.declared.text.Text.{Text}
use Rattle.fly_types.specs.declared.literals.LiteralMap.{LiteralMap}
use Rattle.fly_docs.specs.declared.dataset.DatasetId.{DatasetId}
use Rattle.fly_docs.specs.declared.attempt_name.AttemptName.{AttemptName}
use Rattle.fly_docs.specs.declared.task.Task.{Task}
use Rattle.fly_docs.specs.declared.workflow.Workflow.{Workflow}
use Rattle.fly_docs.specs.Lookups.{primary_of}
use Rattle.fly_docs.specs.Templates.{is_id_text}
use Rattle.fly_policy.specs.declared.outcome.Outcome.{Outcome}
use Rattle.fly_policy.specs.declared.outcome.Outcome.TheVariants as outcome
use Rattle.fly_catalog.specs.declared.parts.Reservation.{Reservation}
use Rattle.fly_catalog.specs.declared.requests.Grant.{Grant}
use Rattle.fly_catalog.specs.declared.requests.Grant.TheVariants as grant
use Rattle.fly_catalog.specs.declared.requests.Selector.TheVariants as selector
use Rattle.fly_catalog.specs.Catalog.{CatalogLists}
use Rattle.fly_catalog.specs.Cached.{cached_dataset}
use Rattle.fly_catalog.specs.Requests.{tag_of, content_of, with_stored, grant_of, after_grant}
use Rattle.fly_state.specs.declared.moves.At.{At}
use Rattle.fly_state.specs.declared.moves.Move.{Move}
use Rattle.fly_state.specs.declared.entries.Entry.{Entry}
use Rattle.fly_state.specs.declared.entries.Op.{Op}
use Rattle.fly_state.specs.declared.entries.Op.TheVariants as op
use Rattle.fly_state.specs.declared.entries.Reply.{Reply}
use Rattle.fly_state.specs.declared.entries.Reply.TheVariants as reply
use Rattle.fly_state.specs.declared.view.View.{View}
use Rattle.fly_state.specs.Plans.{RunPlan, Path}
use Rattle.fly_state.specs.States.{is_final, is_not_yet_started, first_state}
use Rattle.fly_state.specs.Moves.{where_true, same_item, is_queued, is_succeeding, is_legal}
use Rattle.fly_state.specs.OfPlan.{item_output_variables}
use Rattle.fly_state.specs.Rounds.{CitedMove, cited_places, state_after}
use Rattle.fly_world.specs.World.{World, Execution, Launch, Claim, current_of, is_over, execution_named, is_submitted, is_launched, is_settled, claim_of, unclaimed, current_view}
use Rattle.fly_world.specs.Changes.{Change, no_change, moment_becomes, catalog_becomes, lets_go, adds_execution, adds_launch, adds_claim, adds_outcome, adds_version}
use Rattle.fly_world.specs.Spots.{are_ids, gives_all, Spot, spot_of, slot_of, phase_at, attempt_spot, runs, has_inputs, timeout_of, is_due, cached_task, given_in, tag_at, owner_at, is_ended}

-- ---- answers

-- A reply with its change.
pub record Answer : Type 0 where
  pub reply : Reply
  pub change : Change

-- the reply changes nothing
abbrev pub says : Reply → Answer
says r = record { reply = r; change = no_change }

abbrev pub does : Reply → Change → Answer
does r c = record { reply = r; change = c }

-- the first answer whose condition holds, and else the last
abbrev pub first_fitting : List (Bool × Answer) → Answer → Answer
first_fitting [] last = last
first_fitting (row ∷ rows) last = if row.0 then row.1 else first_fitting rows last

-- on what is there; where it is not there, it is unknown
abbrev pub if_known : {X : Type 0} → (X → Answer) → Option X → Answer
if_known f x = option_map_or f x (says reply.Unknown)

-- ---- the opening

-- entry 0 alone, by worker 0
abbrev pub on_begin : World → ℕ → Option Answer
on_begin w worker = where_true (worker == 0 && length w.entries == 0) (Some (says reply.Begun))

abbrev pub is_opening_op : Op → Bool
is_opening_op (op.Begin closure) = true
is_opening_op (op.Import dataset tag content) = true
is_opening_op _ = false

-- all entries so far are a beginning and imports
abbrev pub is_opening : World → Bool
is_opening w = list_all (λ (e : Entry). is_opening_op e.op) w.entries

-- the id of the next artifact: `a` and the number of artifacts before it
abbrev pub next_artifact_id : CatalogLists → Text
next_artifact_id c = codes "a" ++ decimal (length c.artifacts)

-- with an artifact under a tag, and its dataset where that is missing
abbrev pub with_artifact_under : CatalogLists → DatasetId → Text → LiteralMap → CatalogLists
with_artifact_under c dataset tag content =
    with_stored c (record { dataset = dataset; id = next_artifact_id c; content = content })
    (record { dataset = dataset; name = tag; artifact = next_artifact_id c })

abbrev pub on_import : World → DatasetId → Text → LiteralMap → Option Answer
on_import w dataset tag content =
    where_true (is_opening w && not (is_some (tag_of w.catalog dataset tag)))
    (Some (does reply.Imported (catalog_becomes (with_artifact_under w.catalog dataset tag content))))

-- how many executions there may be
abbrev pub max_executions : ℕ
max_executions = 2 ^ 32 - 1

-- the inputs are those of the primary workflow
abbrev pub are_workflow_inputs : RunPlan → LiteralMap → Bool
are_workflow_inputs plan inputs =
    list_any (λ (w : Workflow). gives_all w.interface.inputs inputs) (option_to_list (primary_of plan.documents))

abbrev pub submitted : RunPlan → World → Text → LiteralMap → Answer
submitted plan w exec inputs =
    first_fitting ((is_submitted w exec, says reply.Taken) ∷ [])
    (does reply.Submitted (adds_execution exec inputs (first_state plan inputs)))

abbrev pub on_submit : RunPlan → World → Text → LiteralMap → Option Answer
on_submit plan w exec inputs =
    where_true (is_id_text exec && are_workflow_inputs plan inputs &&
    (is_submitted w exec || nat_lt (length w.executions) max_executions))
    (Some (submitted plan w exec inputs))

-- ---- the moment

-- what a clock shows, cut to at most 2^62
abbrev pub cut_moment : ℤ → ℤ
cut_moment now = int_min now (pos (2 ^ 62))

-- the greater of the moment and that
abbrev pub next_moment : World → ℤ → ℤ
next_moment w now = int_max w.moment (cut_moment now)

abbrev pub on_tick : World → ℤ → Option Answer
on_tick w now = Some (does (reply.Now (next_moment w now)) (moment_becomes (next_moment w now)))

-- ---- reservations that have ended

abbrev pub on_sweep : RunPlan → World → Option Answer
on_sweep plan w =
    Some (does (reply.Swept (count_by (λ (r : Reservation). is_ended plan w r.owner) w.catalog.reservations))
    (lets_go (is_ended plan w)))

-- ---- reads

-- the executions with their numbers, from a place on and around
abbrev pub executions_from : World → ℕ → List (ℕ × Execution)
executions_from w from =
    let all = enumerate_from 0 w.executions in
    let start = from % length w.executions in
    drop start all ++ take start all

-- the first execution that is not over, at or cyclically after a place
abbrev pub read_execution : World → ℕ → Option (ℕ × Execution)
read_execution w from = find (λ (at : ℕ × Execution). not (is_over at.1)) (executions_from w from)

-- the version so many before the current one, or the first
abbrev pub read_version : Execution → ℕ → ℕ
read_version x back = current_of x - back

abbrev pub viewed : ℕ → ℕ × Execution → Answer
viewed back at = says (reply.Viewed at.1.name (read_version at.1 back) (current_of at.1))

abbrev pub on_read : World → ℕ → ℕ → Option Answer
on_read w from back = Some (option_map_or (viewed back) (read_execution w from) (says reply.Idle))

-- ---- the cache

-- an operation on a node that the plan and the submissions have
abbrev pub on_node : RunPlan → World → Text → Path → (Spot → Answer) → Option Answer
on_node plan w exec path f = where_true (are_ids exec path) (Some (if_known f (spot_of plan w exec path)))

-- on the task of a node whose outputs are cached, which other nodes are not ready for
abbrev pub on_cached : RunPlan → Spot → (Task → Answer) → Answer
on_cached plan spot f = option_map_or f (cached_task plan spot.node) (says reply.NotReady)

-- what the catalog has under the node's tag, where that is exactly the declared outputs
abbrev pub cached_content : World → Spot → Task → Option LiteralMap
cached_content w spot t =
    option_and_then (λ content. where_true (gives_all t.interface.outputs content) (Some content))
    (content_of w.catalog (cached_dataset t) (selector.Tag (tag_at spot)))

abbrev pub looked_up : World → Spot → Task → Answer
looked_up w spot t =
    first_fitting ((not (is_queued (phase_at spot)), says reply.NotReady) ∷ [])
    (option_map_or (λ content. says (reply.Hit content)) (cached_content w spot t) (says reply.Miss))

abbrev pub on_lookup : RunPlan → World → Text → Path → Option Answer
on_lookup plan w exec path = on_node plan w exec path (λ spot. on_cached plan spot (looked_up w spot))

-- the heartbeat of those who ask for reservations, in milliseconds
abbrev pub heartbeat : ℤ
heartbeat = pos 10_000

abbrev pub grant_reply : Grant → Reply
grant_reply (grant.Granted expiry) = reply.Granted expiry
grant_reply (grant.HeldBy owner expiry) = reply.HeldBy owner expiry

-- the answer to the node that asks for its tag at the moment
abbrev pub grant_at : World → Spot → Task → Grant
grant_at w spot t = grant_of w.catalog (cached_dataset t) (tag_at spot) (owner_at spot) w.moment heartbeat

abbrev pub granted : World → Spot → Task → Answer
granted w spot t =
    does (grant_reply (grant_at w spot t))
    (catalog_becomes (after_grant w.catalog (cached_dataset t) (tag_at spot) (owner_at spot) (grant_at w spot t)))

abbrev pub reserved : World → Spot → Task → Answer
reserved w spot t =
    first_fitting
    ((not t.serializable || is_not_yet_started (phase_at spot) || is_final (phase_at spot), says reply.NotReady) ∷ [])
    (granted w spot t)

abbrev pub on_reserve : RunPlan → World → Text → Path → Option Answer
on_reserve plan w exec path = on_node plan w exec path (λ spot. on_cached plan spot (reserved w spot))

abbrev pub put : World → Spot → Task → Answer
put w spot t =
    first_fitting
    ((not (is_succeeding (phase_at spot)), says reply.NotReady)
    ∷ (is_some (tag_of w.catalog (cached_dataset t) (tag_at spot)), says reply.Present) ∷ [])
    (does reply.Stored (catalog_becomes
    (with_artifact_under w.catalog (cached_dataset t) (tag_at spot) (given_in (slot_of spot)))))

abbrev pub on_put : RunPlan → World → Text → Path → Option Answer
on_put plan w exec path = on_node plan w exec path (λ spot. on_cached plan spot (put w spot))

-- ---- attempts

-- an operation on an attempt that is of the plan and the submissions
abbrev pub on_attempt : RunPlan → World → AttemptName → (Spot → Answer) → Option Answer
on_attempt plan w name f = where_true (are_ids name.exec name.path) (Some (if_known f (attempt_spot plan w name)))

abbrev pub launched : RunPlan → World → AttemptName → LiteralMap → Spot → Answer
launched plan w name inputs spot =
    first_fitting
    ((is_launched w name, says reply.Already)
    ∷ (not (runs spot name), says reply.NotRunning)
    ∷ (not (has_inputs plan spot name inputs), says reply.BadInputs) ∷ [])
    (does reply.Launched (adds_launch name inputs))

abbrev pub on_launch : RunPlan → World → AttemptName → LiteralMap → Option Answer
on_launch plan w name inputs = on_attempt plan w name (launched plan w name inputs)

-- on the claim of an attempt
abbrev pub if_claimed : World → AttemptName → (Claim → Answer) → Answer
if_claimed w name f = option_map_or f (claim_of w name) (says reply.NotClaimed)

-- the time of a claimed attempt is over
abbrev pub is_overdue : RunPlan → World → Spot → Claim → Bool
is_overdue plan w spot c = is_due (timeout_of plan spot.node) w.moment c

abbrev pub timed_out : AttemptName → Answer
timed_out name = does reply.Expired (adds_outcome name outcome.TimedOut)

abbrev pub expired : RunPlan → World → AttemptName → Spot → Answer
expired plan w name spot = if_claimed w name λ c.
    first_fitting
    ((is_settled w name, says reply.AlreadySettled)
    ∷ (not (is_overdue plan w spot c), says reply.NotDue) ∷ [])
    (timed_out name)

abbrev pub on_expire : RunPlan → World → AttemptName → Option Answer
on_expire plan w name = on_attempt plan w name (expired plan w name)

abbrev pub claimed : Launch → Answer
claimed l = does (reply.Claimed l.name) (adds_claim l.name)

abbrev pub on_claim : World → Option Answer
on_claim w = Some (option_map_or claimed (unclaimed w) (says reply.Nothing))

-- the outcome is no timeout, and its outputs are those of the task that the node runs
abbrev pub is_outcome_at : RunPlan → Outcome → Option Spot → Bool
is_outcome_at plan outcome.TimedOut spot = false
is_outcome_at plan (outcome.Succeeded outputs) (Some spot) = gives_all (item_output_variables plan spot.node) outputs
is_outcome_at plan _ spot = true

abbrev pub finished : RunPlan → World → AttemptName → Outcome → Spot → Answer
finished plan w name o spot = if_claimed w name λ c.
    first_fitting
    ((is_settled w name, says reply.AlreadySettled)
    ∷ (is_overdue plan w spot c, timed_out name) ∷ [])
    (does reply.Recorded (adds_outcome name o))

abbrev pub on_finish : RunPlan → World → AttemptName → Outcome → Option Answer
on_finish plan w name o =
    where_true (is_outcome_at plan o (attempt_spot plan w name)) (on_attempt plan w name (finished plan w name o))

-- ---- writes

-- the slot is the root, or at a node that the plan has
abbrev pub is_in_plan : RunPlan → At → Bool
is_in_plan plan at = by at.node at.item
  where
    by : Option ℕ → Option ℕ → Bool
    by None None = true
    by None (Some item) = false
    by (Some i) item = nat_lt i (length plan.nodes)

-- a move with the entries that it cites, as many as there are
abbrev pub cited_move : World → Move → CitedMove
cited_move w m = record { move = m; entries = filter_map (slice_get w.entries) (cited_places m.step) }

-- all entries that a move cites are there
abbrev pub cites_entries : World → Move → Bool
cites_entries w m = list_all (λ place. nat_lt place (length w.entries)) (cited_places m.step)

abbrev pub is_legal_move : RunPlan → World → View → Move → Bool
is_legal_move plan w v m = cites_entries w m && is_legal plan v (cited_move w m).entries m

abbrev pub same_slot : At → At → Bool
same_slot a b = same_item a.node b.node && same_item a.item b.item

-- a move that is not legal, or whose slot one of these has
abbrev pub is_bad_move : RunPlan → World → View → List Move → Move → Bool
is_bad_move plan w v earlier m = not (is_legal_move plan w v m) || list_any
    (λ (e : Move). same_slot e.at m.at) earlier

-- the number of the first such move; 0 where there are no moves
abbrev pub bad_move : RunPlan → World → View → List Move → Option ℕ
bad_move plan w v [] = Some 0
bad_move plan w v (m ∷ ms) =
    position (λ (at : ℕ × Move). is_bad_move plan w v (take at.0 (m ∷ ms)) at.1) (enumerate_from 0 (m ∷ ms))

abbrev pub with_moves : RunPlan → World → List Move → ℕ × Execution → Answer
with_moves plan w moves at =
    does (reply.Written (current_of at.1 + 1))
    (adds_version at (state_after plan (current_view w at) (map (cited_move w) moves)))

abbrev pub written : RunPlan → World → ℕ → List Move → ℕ × Execution → Answer
written plan w base moves at =
    first_fitting ((not (base == current_of at.1), says (reply.Stale (current_of at.1))) ∷ [])
    (option_map_or (λ index. says (reply.IllegalMove index)) (bad_move plan w (current_view w at) moves)
    (with_moves plan w moves at))

abbrev pub on_write : RunPlan → World → Text → ℕ → List Move → Option Answer
on_write plan w exec base moves =
    where_true (is_id_text exec && list_all (λ (m : Move). is_in_plan plan m.at) moves)
    (Some (if_known (written plan w base moves) (execution_named w exec)))

-- ---- all operations

-- what an operation of a worker answers and changes; none where its entry is illegal
unfoldable pub step : RunPlan → World → ℕ → Op → Option Answer
step plan w worker (op.Begin closure) = on_begin w worker
step plan w worker (op.Import dataset tag content) = on_import w dataset tag content
step plan w worker (op.Submit exec inputs) = on_submit plan w exec inputs
step plan w worker (op.Tick now) = on_tick w now
step plan w worker op.Sweep = on_sweep plan w
step plan w worker (op.Read from back) = on_read w from back
step plan w worker (op.Lookup exec path) = on_lookup plan w exec path
step plan w worker (op.Reserve exec path) = on_reserve plan w exec path
step plan w worker (op.Launch name inputs) = on_launch plan w name inputs
step plan w worker (op.Expire name) = on_expire plan w name
step plan w worker (op.Put exec path) = on_put plan w exec path
step plan w worker (op.Write exec base moves) = on_write plan w exec base moves
step plan w worker op.Claim = on_claim w
step plan w worker (op.Finish name o) = on_finish plan w name o
