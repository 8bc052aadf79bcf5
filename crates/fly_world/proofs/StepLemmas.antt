-- What holds of the change that a step makes.
use Rattle.std.proofs.Common.{◌≡◌, ◌⊎◌, inl, inr, ℕ, ◌≤ℤ◌, ℤ, Bool, cond, true, false, not, ◌&&◌, ◌||◌, List, [], ◌∷◌, map, fold, length, find, count_by, Option, Some, None, option_and_then, is_some, refl, sym, subst, ap, ◌∙◌, eqb, ltb}
use Rattle.std.specs.Prelude.{⊤}
use Rattle.std.specs.Int.{int_max}
use Rattle.std.specs.List.{list_all}
use Rattle.std.specs.Option.{option_map_or}
use Rattle.std.proofs.lemmas.Bool.{and_parts, false≢true, not-false}
use Rattle.std.proofs.lemmas.Int.{fold-int_max_bounds}
use Rattle.std.proofs.lemmas.Option.{none-some, same_Some}
use Rattle.fly_types.specs.declared.text.Text.{Text}
use Rattle.fly_types.specs.declared.literals.LiteralMap.{LiteralMap}
use Rattle.fly_docs.specs.declared.attempt_name.AttemptName.{AttemptName}
use Rattle.fly_docs.specs.declared.dataset.DatasetId.{DatasetId}
use Rattle.fly_docs.specs.declared.submission.Submission.{Submission}
use Rattle.fly_docs.specs.declared.task.Task.{Task}
use Rattle.fly_docs.specs.Templates.{is_id_text}
use Rattle.fly_policy.specs.declared.outcome.Outcome.{Outcome}
use Rattle.fly_policy.specs.declared.outcome.Outcome.TheVariants as outcome
use Rattle.fly_catalog.specs.declared.parts.Reservation.{Reservation}
use Rattle.fly_catalog.specs.Catalog.{CatalogLists}
use Rattle.fly_catalog.specs.Cached.{cached_dataset}
use Rattle.fly_catalog.specs.declared.requests.Grant.{Grant}
use Rattle.fly_catalog.specs.declared.requests.Grant.TheVariants as grant
use Rattle.fly_catalog.specs.Requests.{has_dataset, with_dataset, tag_of, grant_of, after_grant}
use Rattle.fly_state.specs.declared.slots.ExecState.{ExecState}
use Rattle.fly_state.specs.declared.moves.Move.{Move}
use Rattle.fly_state.specs.declared.entries.Op.{Op}
use Rattle.fly_state.specs.declared.entries.Op.TheVariants as op
use Rattle.fly_state.specs.declared.entries.Reply.{Reply}
use Rattle.fly_state.specs.declared.entries.Reply.TheVariants as reply
use Rattle.fly_docs.specs.Plans.{PlanNode}
use Rattle.fly_state.specs.Plans.{RunPlan, Path, node_numbered, number_of}
use Rattle.fly_state.specs.OfPlan.{item_output_variables}
use Rattle.fly_state.specs.States.{first_state, is_not_yet_started, is_final}
use Rattle.fly_state.specs.Moves.{where_true, is_queued, is_succeeding}
use Rattle.fly_state.specs.Rounds.{IsRound, state_after}
use Rattle.fly_cast.proofs.Options.{map-some}
use Rattle.fly_state.proofs.FinalLemmas.{option_and_then-there}
use Rattle.fly_world.specs.World.{World, Execution, Launch, Claim, is_submitted, is_launched, is_claimed, is_settled, claim_of, unclaimed, execution_named, current_of, current_view}
use Rattle.fly_world.specs.Changes.{Change, no_change, moment_becomes, catalog_becomes, lets_go, adds_execution, adds_launch, adds_claim, adds_outcome, adds_version, with_change}
use Rattle.fly_world.specs.Spots.{Spot, spot_numbered, spot_of, has_attempts, where_named, gives_all, attempt_spot, runs, has_inputs, cached_task, are_ids, phase_at, tag_at, slot_of, given_in, owner_at, is_ended}
use Rattle.fly_world.specs.Steps.{Answer, says, does, step, first_fitting, if_known, on_node, on_cached, on_attempt, if_claimed, on_begin, is_opening, with_artifact_under, on_import, are_workflow_inputs, max_executions, submitted, on_submit, cut_moment, next_moment, on_tick, on_sweep, read_execution, viewed, on_read, cached_content, looked_up, on_lookup, heartbeat, grant_reply, grant_at, granted, reserved, on_reserve, put, on_put, launched, on_launch, is_overdue, timed_out, expired, on_expire, claimed, on_claim, is_outcome_at, finished, on_finish, is_in_plan, cited_move, bad_move, with_moves, written, on_write}
use Rattle.fly_world.specs.ReadOff.{launches_by, claims_by, results_by, submissions_by, ticks_by}
use Rattle.fly_world.specs.Versions.{IsNodeOfAttempt}
use Rattle.fly_world.proofs.AnswerLemmas.{tested, on_option, allowed, allowed_where, allowed_behind}
use Rattle.fly_world.proofs.RoundLemmas.{good-round}

-- The next version of an execution: its moves are a round at the current one.
pub record IsNextVersion (plan : RunPlan) (w : World) (execution : ℕ × Execution) (state : ExecState) : Type 0 where
  pub exec : Text
  pub moves : List Move
  pub named : execution_named w exec ≡ Some execution
  pub round : IsRound plan (current_view w execution) (map (cited_move w) moves)
  pub state_is : state ≡ state_after plan (current_view w execution) (map (cited_move w) moves)

-- the attempt is of a node that has attempts, in an execution that is there
abbrev pub IsAttemptOf : RunPlan → World → AttemptName → Type 0
IsAttemptOf plan w name =
    (p : PlanNode) × IsNodeOfAttempt plan name p × (has_attempts p.node name.item ≡ true)
    × ((at : ℕ × Execution) × (execution_named w name.exec ≡ Some at))

-- the inputs are those of the attempt's slot in the current version
abbrev pub HasInputsOf : RunPlan → World → AttemptName → LiteralMap → Type 0
HasInputsOf plan w name inputs =
    (spot : Spot) × (attempt_spot plan w name ≡ Some spot) × (has_inputs plan spot name inputs ≡ true)

-- the outputs of an outcome are those of the task that its attempt runs
abbrev pub IsTypedOutcome : RunPlan → AttemptName → Outcome → Type 0
IsTypedOutcome plan name o =
    (p : PlanNode) (outputs : LiteralMap) → IsNodeOfAttempt plan name p → o ≡ outcome.Succeeded outputs
    → gives_all (item_output_variables plan p) outputs ≡ true

-- the catalog after an answer to an owner that asked for a key at the moment
abbrev pub IsGrant : World → CatalogLists → Type 0
IsGrant w catalog =
    (d : DatasetId) × (tag : Text) × (owner : Text)
    × (catalog ≡ after_grant w.catalog d tag owner (grant_of w.catalog d tag owner w.moment heartbeat))

-- what holds of each change that an answer makes
abbrev pub Permits : RunPlan → World → Change → Type 0
Permits plan w no_change = ⊤
Permits plan w (moment_becomes moment) = w.moment ≤ℤ moment
Permits plan w (catalog_becomes catalog) = (catalog.reservations ≡ w.catalog.reservations) ⊎ IsGrant w catalog
Permits plan w (lets_go ends) = ends ≡ is_ended plan w
Permits plan w (adds_execution name inputs state) =
    (is_submitted w name ≡ false) × (state ≡ first_state plan inputs) × (are_workflow_inputs plan inputs ≡ true)
    × (is_id_text name ≡ true)
Permits plan w (adds_launch name inputs) =
    (is_launched w name ≡ false) × IsAttemptOf plan w name × HasInputsOf plan w name inputs
Permits plan w (adds_claim name) = (is_claimed w name ≡ false)
    × ((l : Launch) × (unclaimed w ≡ Some l) × (l.name ≡ name))
Permits plan w (adds_outcome name o) = (is_settled w name ≡ false) × IsTypedOutcome plan name o
    × ((c : Claim) × (claim_of w name ≡ Some c))
Permits plan w (adds_version at state) = IsNextVersion plan w at state

-- ---- what an entry tells of its change

abbrev pub launch_in : Change → List AttemptName
launch_in (adds_launch name inputs) = name ∷ []
launch_in _ = []

abbrev pub claim_in : Change → List AttemptName
claim_in (adds_claim name) = name ∷ []
claim_in _ = []

abbrev pub outcome_in : Change → List (AttemptName × Outcome)
outcome_in (adds_outcome name o) = (name, o) ∷ []
outcome_in _ = []

abbrev pub submission_in : Change → List Submission
submission_in (adds_execution name inputs state) = record { name = name; inputs = inputs } ∷ []
submission_in _ = []

abbrev pub is_no_memory : Reply → Bool
is_no_memory reply.NoMemory = true
is_no_memory _ = false

abbrev pub is_sweep : Op → Bool
is_sweep op.Sweep = true
is_sweep _ = false

abbrev pub lets_any_go : Change → Bool
lets_any_go (lets_go ends) = true
lets_any_go _ = false

-- the operation with its reply tells what was launched, handed out, settled and submitted, and what the moment
-- became; no answer is want of memory
abbrev pub Tells : World → Op → Answer → Type 0
Tells w o a =
    (launches_by o a.reply ≡ launch_in a.change)
    × (claims_by o a.reply ≡ claim_in a.change)
    × (results_by o a.reply ≡ outcome_in a.change)
    × (submissions_by o a.reply ≡ submission_in a.change)
    × ((with_change w a.change).moment ≡ fold int_max w.moment (ticks_by o a.reply))
    × (is_no_memory a.reply ≡ false)
    × (lets_any_go a.change ≡ is_sweep o)

-- ---- the node of an attempt

abbrev has_outputs : Outcome → Bool
has_outputs (outcome.Succeeded outputs) = true
has_outputs _ = false

-- where a spot stands
pub spot_at : (plan : RunPlan) (path : Path) (o : Option (ℕ × Execution)) (spot : Spot)
    → option_and_then (λ at. option_and_then (spot_numbered plan at) (number_of plan path)) o ≡ Some spot
    → (o ≡ Some spot.execution) × (number_of plan path ≡ Some spot.number) ×
    (node_numbered plan spot.number ≡ Some spot.node)
spot_at plan path o spot h =
    let at = option_and_then-there (λ x. option_and_then (spot_numbered plan x) (number_of plan path)) o spot h in
    let number = option_and_then-there (spot_numbered plan at.0) (number_of plan path) spot at.2 in
    let node = map-some (λ p. record { execution = at.0; number = number.0; node = p }) (node_numbered plan number.0)
    spot number.2 in (
      at.1 ∙ ap (λ (x : Spot). Some x.execution) (sym node.2),
      number.1 ∙ ap (λ (x : Spot). Some x.number) (sym node.2),
      ap (λ (x : Spot). node_numbered plan x.number) node.2 ∙ node.1 ∙ ap (λ (x : Spot). Some x.node) (sym node.2),
    )

pub where_named-is : (name : AttemptName) (o : Option Spot) (spot : Spot) → option_and_then (where_named name) o
    ≡ Some spot → o ≡ Some spot
where_named-is name None spot h = absurd (none-some spot h)
where_named-is name (Some s) spot h = by (has_attempts s.node.node name.item) h
  where
    by : (b : Bool) → where_true b (Some s) ≡ Some spot → Some s ≡ Some spot
    by true h = h
    by false h = absurd (none-some spot h)

-- the plan has the attempt's node at its path
pub attempt_found : (plan : RunPlan) (w : World) (name : AttemptName) (spot : Spot) → attempt_spot plan w name
    ≡ Some spot
    → IsNodeOfAttempt plan name spot.node
attempt_found plan w name spot h =
    let at = spot_at plan name.path (execution_named w name.exec) spot
    (where_named-is name (spot_of plan w name.exec name.path) spot h) in
    (spot.number, at.1, at.2)

pub where_named-has : (name : AttemptName) (o : Option Spot) (spot : Spot) → option_and_then (where_named name) o
    ≡ Some spot
    → has_attempts spot.node.node name.item ≡ true
where_named-has name None spot h = absurd (none-some spot h)
where_named-has name (Some s) spot h = by (has_attempts s.node.node name.item) refl h
  where
    by : (b : Bool) → has_attempts s.node.node name.item ≡ b → where_true b (Some s) ≡ Some spot
        → has_attempts spot.node.node name.item ≡ true
    by true e h = subst (λ (x : Spot). has_attempts x.node.node name.item ≡ true) (same_Some s spot h) e
    by false e h = absurd (none-some spot h)

attempt_of : (plan : RunPlan) (w : World) (name : AttemptName) (spot : Spot) → attempt_spot plan w name ≡ Some spot
    → IsAttemptOf plan w name
attempt_of plan w name spot h = (
  spot.node,
  attempt_found plan w name spot h,
  where_named-has name (spot_of plan w name.exec name.path) spot h,
  (
    spot.execution,
    (spot_at plan name.path (execution_named w name.exec) spot
        (where_named-is name (spot_of plan w name.exec name.path) spot h)).0,
  ),
)

-- and it is no other
attempt_node : (plan : RunPlan) (w : World) (name : AttemptName) (spot : Spot) (p : PlanNode)
    → attempt_spot plan w name ≡ Some spot
    → IsNodeOfAttempt plan name p → p ≡ spot.node
attempt_node plan w name spot p h node =
    let found = attempt_found plan w name spot h in
    let same : node.0 ≡ found.0 = same_Some node.0 found.0 (sym node.1 ∙ found.1) in
    same_Some p spot.node (sym node.2 ∙ ap (node_numbered plan) same ∙ found.2)

typed_by : (plan : RunPlan) (o : Outcome) (spot : Spot) (outputs : LiteralMap) → is_outcome_at plan o (Some spot)
    ≡ true
    → o ≡ outcome.Succeeded outputs → gives_all (item_output_variables plan spot.node) outputs ≡ true
typed_by plan o spot outputs test same = subst (λ x. is_outcome_at plan x (Some spot) ≡ true) same test

typed_at : (plan : RunPlan) (w : World) (name : AttemptName) (o : Outcome) (spot : Spot) → attempt_spot plan w name
    ≡ Some spot
    → is_outcome_at plan o (Some spot) ≡ true → IsTypedOutcome plan name o
typed_at plan w name o spot there test p outputs node same =
    subst (λ q. gives_all (item_output_variables plan q) outputs ≡ true)
    (sym (attempt_node plan w name spot p there node))
    (typed_by plan o spot outputs test same)

-- ---- the catalog

-- a new artifact leaves the reservations
same_reservations : (c : CatalogLists) (d : DatasetId) (tag : Text) (content : LiteralMap)
    → (with_artifact_under c d tag content).reservations ≡ c.reservations
same_reservations c d tag content = by (has_dataset c d)
  where
    by : (b : Bool) → (cond b c (with_dataset c d)).reservations ≡ c.reservations
    by true = refl
    by false = refl

-- ---- all operations, one by one

module _ (plan : RunPlan) (w : World) where
  -- the change is one that may be made, and the operation with its reply tells of it
  abbrev Fine : Op → Answer → Type 0
  Fine o a = Permits plan w a.change × Tells w o a

  -- ---- the opening, the moment, reservations and reads

  begin-fine : (closure : List ℕ) (worker : ℕ) (a : Answer) → on_begin w worker ≡ Some a → Fine (op.Begin closure) a
  begin-fine closure worker a h =
      allowed (Fine (op.Begin closure)) (eqb worker 0 && eqb (length w.entries) 0) (says reply.Begun) a h
      (tt, (refl, refl, refl, refl, refl, refl, refl))

  import-fine : (d : DatasetId) (tag : Text) (content : LiteralMap) (a : Answer) → on_import w d tag content ≡ Some a
      → Fine (op.Import d tag content) a
  import-fine d tag content a h =
      allowed (Fine (op.Import d tag content)) (is_opening w && not (is_some (tag_of w.catalog d tag)))
      (does reply.Imported (catalog_becomes (with_artifact_under w.catalog d tag content))) a h
      (inl (same_reservations w.catalog d tag content), (refl, refl, refl, refl, refl, refl, refl))

  submit-fine : (exec : Text) (inputs : LiteralMap) (a : Answer) → on_submit plan w exec inputs ≡ Some a
      → Fine (op.Submit exec inputs) a
  submit-fine exec inputs a h =
      let room = is_submitted w exec || ltb (length w.executions) max_executions in
      let done : Answer = does reply.Submitted (adds_execution exec inputs (first_state plan inputs)) in
      allowed_where (Fine (op.Submit exec inputs)) (is_id_text exec && are_workflow_inputs plan inputs && room)
      (submitted plan w exec inputs) a h
      (λ test.
      let front = (and_parts (is_id_text exec && are_workflow_inputs plan inputs) room test).0 in
      let parts = and_parts (is_id_text exec) (are_workflow_inputs plan inputs) front in
      tested (Fine (op.Submit exec inputs)) (is_submitted w exec) (says reply.Taken) done
      (λ there. (tt, (refl, refl, refl, refl, refl, refl, refl)))
      (λ free. ((free, refl, parts.1, parts.0), (refl, refl, refl, refl, refl, refl, refl))))

  -- the moment becomes no earlier
  no_earlier : (m : ℤ) → w.moment ≤ℤ int_max w.moment m
  no_earlier m = (fold-int_max_bounds w.moment (m ∷ []) (int_max w.moment m) refl).0

  tick-fine : (now : ℤ) (a : Answer) → on_tick w now ≡ Some a → Fine (op.Tick now) a
  tick-fine now a h =
      subst (Fine (op.Tick now)) (same_Some
      (does (reply.Now (next_moment w now)) (moment_becomes (next_moment w now))) a h)
      (no_earlier (cut_moment now), (refl, refl, refl, refl, refl, refl, refl))

  sweep-fine : (a : Answer) → on_sweep plan w ≡ Some a → Fine op.Sweep a
  sweep-fine a h =
      subst (Fine op.Sweep) (same_Some
      (does (reply.Swept (count_by (λ (r : Reservation). is_ended plan w r.owner) w.catalog.reservations))
      (lets_go (is_ended plan w))) a h) (refl, (refl, refl, refl, refl, refl, refl, refl))

  read-fine : (from back : ℕ) (a : Answer) → on_read w from back ≡ Some a → Fine (op.Read from back) a
  read-fine from back a h =
      subst (Fine (op.Read from back))
      (same_Some (option_map_or (viewed back) (read_execution w from) (says reply.Idle)) a h)
      (on_option (Fine (op.Read from back)) (viewed back) (read_execution w from) (says reply.Idle)
      (λ at e. (tt, (refl, refl, refl, refl, refl, refl, refl))) (tt, (refl, refl, refl, refl, refl, refl, refl)))

  -- ---- the cache

  -- an operation on a node
  on_node-fine : (o : Op) (exec : Text) (path : Path) (f : Spot → Answer) (a : Answer) → on_node plan w exec path f
      ≡ Some a
      → Fine o (says reply.Unknown) → ((spot : Spot) → Fine o (f spot)) → Fine o a
  on_node-fine o exec path f a h unknown fine =
      allowed (Fine o) (are_ids exec path) (if_known f (spot_of plan w exec path)) a h
      (on_option (Fine o) f (spot_of plan w exec path) (says reply.Unknown) (λ spot e. fine spot) unknown)

  on_cached-fine : (o : Op) (spot : Spot) (f : Task → Answer) → Fine o (says reply.NotReady)
      → ((t : Task) → Fine o (f t))
      → Fine o (on_cached plan spot f)
  on_cached-fine o spot f not_ready fine =
      on_option (Fine o) f (cached_task plan spot.node) (says reply.NotReady) (λ t e. fine t) not_ready

  module _ (exec : Text) (path : Path) where
    looked_up-fine : (spot : Spot) (t : Task) → Fine (op.Lookup exec path) (looked_up w spot t)
    looked_up-fine spot t =
        let hit : LiteralMap → Answer = λ content. says (reply.Hit content) in
        tested (Fine (op.Lookup exec path)) (not (is_queued (phase_at spot))) (says reply.NotReady)
        (option_map_or hit (cached_content w spot t) (says reply.Miss))
        (λ e. (tt, (refl, refl, refl, refl, refl, refl, refl)))
        (λ e. on_option (Fine (op.Lookup exec path)) hit (cached_content w spot t) (says reply.Miss)
        (λ content e. (tt, (refl, refl, refl, refl, refl, refl, refl)))
        (tt, (refl, refl, refl, refl, refl, refl, refl)))

    lookup-fine : (a : Answer) → on_lookup plan w exec path ≡ Some a → Fine (op.Lookup exec path) a
    lookup-fine a h =
        on_node-fine (op.Lookup exec path) exec path (λ spot. on_cached plan spot (looked_up w spot)) a h
        (tt, (refl, refl, refl, refl, refl, refl, refl))
        (λ spot. on_cached-fine (op.Lookup exec path) spot (looked_up w spot)
        (tt, (refl, refl, refl, refl, refl, refl, refl)) (looked_up-fine spot))

    granted-fine : (spot : Spot) (t : Task) (g : Grant) → g ≡ grant_at w spot t
        → Fine (op.Reserve exec path)
        (does (grant_reply g) (catalog_becomes
        (after_grant w.catalog (cached_dataset t) (tag_at spot) (owner_at spot) g)))
    granted-fine spot t (grant.Granted expiry) same = (
      inr (
        cached_dataset t,
        tag_at spot,
        owner_at spot,
        ap (after_grant w.catalog (cached_dataset t) (tag_at spot) (owner_at spot)) same,
      ),
      (refl, refl, refl, refl, refl, refl, refl),
    )
    granted-fine spot t (grant.HeldBy owner expiry) same = (inl refl, (refl, refl, refl, refl, refl, refl, refl))

    reserved-fine : (spot : Spot) (t : Task) → Fine (op.Reserve exec path) (reserved w spot t)
    reserved-fine spot t =
        tested (Fine (op.Reserve exec path))
        (not t.serializable || is_not_yet_started (phase_at spot) || is_final (phase_at spot))
        (says reply.NotReady) (granted w spot t) (λ e. (tt, (refl, refl, refl, refl, refl, refl, refl)))
        (λ e. granted-fine spot t (grant_at w spot t) refl)

    reserve-fine : (a : Answer) → on_reserve plan w exec path ≡ Some a → Fine (op.Reserve exec path) a
    reserve-fine a h =
        on_node-fine (op.Reserve exec path) exec path (λ spot. on_cached plan spot (reserved w spot)) a h
        (tt, (refl, refl, refl, refl, refl, refl, refl))
        (λ spot. on_cached-fine (op.Reserve exec path) spot (reserved w spot)
        (tt, (refl, refl, refl, refl, refl, refl, refl)) (reserved-fine spot))

    put-fine : (spot : Spot) (t : Task) → Fine (op.Put exec path) (put w spot t)
    put-fine spot t =
        let done : Answer = does reply.Stored
        (catalog_becomes (with_artifact_under w.catalog (cached_dataset t) (tag_at spot)
        (given_in (slot_of spot)))) in
        let present = is_some (tag_of w.catalog (cached_dataset t) (tag_at spot)) in
        tested (Fine (op.Put exec path)) (not (is_succeeding (phase_at spot))) (says reply.NotReady)
        (first_fitting ((present, says reply.Present) ∷ []) done)
        (λ e. (tt, (refl, refl, refl, refl, refl, refl, refl)))
        (λ e. tested (Fine (op.Put exec path)) present (says reply.Present) done
        (λ e. (tt, (refl, refl, refl, refl, refl, refl, refl)))
        (λ e. (
          inl (same_reservations w.catalog (cached_dataset t) (tag_at spot) (given_in (slot_of spot))),
          (refl, refl, refl, refl, refl, refl, refl),
        )))

    on_put-fine : (a : Answer) → on_put plan w exec path ≡ Some a → Fine (op.Put exec path) a
    on_put-fine a h =
        on_node-fine (op.Put exec path) exec path (λ spot. on_cached plan spot (put w spot)) a h
        (tt, (refl, refl, refl, refl, refl, refl, refl))
        (λ spot. on_cached-fine (op.Put exec path) spot (put w spot) (tt, (refl, refl, refl, refl, refl, refl, refl))
        (put-fine spot))

  -- ---- attempts

  module _ (name : AttemptName) where
    on_attempt-fine : (o : Op) (f : Spot → Answer) (a : Answer) → on_attempt plan w name f ≡ Some a
        → Fine o (says reply.Unknown)
        → ((spot : Spot) → attempt_spot plan w name ≡ Some spot → Fine o (f spot)) → Fine o a
    on_attempt-fine o f a h unknown fine =
        allowed (Fine o) (are_ids name.exec name.path) (if_known f (attempt_spot plan w name)) a h
        (on_option (Fine o) f (attempt_spot plan w name) (says reply.Unknown) fine unknown)

    launched-fine : (inputs : LiteralMap) (spot : Spot) → attempt_spot plan w name ≡ Some spot
        → Fine (op.Launch name inputs) (launched plan w name inputs spot)
    launched-fine inputs spot there =
        let done : Answer = does reply.Launched (adds_launch name inputs) in
        let idle = not (runs spot name) in
        let other = not (has_inputs plan spot name inputs) in
        tested (Fine (op.Launch name inputs)) (is_launched w name) (says reply.Already)
        (first_fitting ((idle, says reply.NotRunning) ∷ (other, says reply.BadInputs) ∷ []) done)
        (λ e. (tt, (refl, refl, refl, refl, refl, refl, refl)))
        (λ free. tested (Fine (op.Launch name inputs)) idle (says reply.NotRunning)
        (first_fitting ((other, says reply.BadInputs) ∷ []) done)
        (λ e. (tt, (refl, refl, refl, refl, refl, refl, refl)))
        (λ e. tested (Fine (op.Launch name inputs)) other (says reply.BadInputs) done
        (λ e. (tt, (refl, refl, refl, refl, refl, refl, refl)))
        (λ e. (
          (free, attempt_of plan w name spot there, (spot, there, not-false (has_inputs plan spot name inputs) e)),
          (refl, refl, refl, refl, refl, refl, refl),
        ))))

    launch-fine : (inputs : LiteralMap) (a : Answer) → on_launch plan w name inputs ≡ Some a
        → Fine (op.Launch name inputs) a
    launch-fine inputs a h =
        on_attempt-fine (op.Launch name inputs) (launched plan w name inputs) a h
        (tt, (refl, refl, refl, refl, refl, refl, refl))
        (launched-fine inputs)

    if_claimed-fine : (o : Op) (f : Claim → Answer) → Fine o (says reply.NotClaimed)
        → ((c : Claim) → claim_of w name ≡ Some c → Fine o (f c)) → Fine o (if_claimed w name f)
    if_claimed-fine o f not_claimed fine = on_option (Fine o) f (claim_of w name)
        (says reply.NotClaimed) fine not_claimed

    no_outputs : IsTypedOutcome plan name outcome.TimedOut
    no_outputs p outputs node same = absurd (false≢true (ap has_outputs same))

    expired-fine : (spot : Spot) → Fine (op.Expire name) (expired plan w name spot)
    expired-fine spot =
        if_claimed-fine (op.Expire name) (λ c. first_fitting ((is_settled w name, says reply.AlreadySettled)
        ∷ (not (is_overdue plan w spot c), says reply.NotDue) ∷ []) (timed_out name))
        (tt, (refl, refl, refl, refl, refl, refl, refl))
        (λ c claimed. tested (Fine (op.Expire name)) (is_settled w name) (says reply.AlreadySettled)
        (first_fitting ((not (is_overdue plan w spot c), says reply.NotDue) ∷ []) (timed_out name))
        (λ there. (tt, (refl, refl, refl, refl, refl, refl, refl)))
        (λ free. tested (Fine (op.Expire name)) (not (is_overdue plan w spot c)) (says reply.NotDue) (timed_out name)
        (λ e. (tt, (refl, refl, refl, refl, refl, refl, refl)))
        (λ e. ((free, no_outputs, (c, claimed)), (refl, refl, refl, refl, refl, refl, refl)))))

    expire-fine : (a : Answer) → on_expire plan w name ≡ Some a → Fine (op.Expire name) a
    expire-fine a h =
        on_attempt-fine (op.Expire name) (expired plan w name) a h (tt, (refl, refl, refl, refl, refl, refl, refl))
        (λ spot e. expired-fine spot)

    finished-fine : (o : Outcome) → IsTypedOutcome plan name o → (spot : Spot)
        → Fine (op.Finish name o) (finished plan w name o spot)
    finished-fine o typed spot =
        let done : Answer = does reply.Recorded (adds_outcome name o) in
        if_claimed-fine (op.Finish name o) (λ c. first_fitting ((is_settled w name, says reply.AlreadySettled)
        ∷ (is_overdue plan w spot c, timed_out name) ∷ []) done) (tt, (refl, refl, refl, refl, refl, refl, refl))
        (λ c claimed. tested (Fine (op.Finish name o)) (is_settled w name) (says reply.AlreadySettled)
        (first_fitting ((is_overdue plan w spot c, timed_out name) ∷ []) done)
        (λ there. (tt, (refl, refl, refl, refl, refl, refl, refl)))
        (λ free. tested (Fine (op.Finish name o)) (is_overdue plan w spot c) (timed_out name) done
        (λ e. ((free, no_outputs, (c, claimed)), (refl, refl, refl, refl, refl, refl, refl)))
        (λ e. ((free, typed, (c, claimed)), (refl, refl, refl, refl, refl, refl, refl)))))

    finish-fine : (o : Outcome) (a : Answer) → on_finish plan w name o ≡ Some a → Fine (op.Finish name o) a
    finish-fine o a h =
        allowed_behind (Fine (op.Finish name o)) (is_outcome_at plan o (attempt_spot plan w name))
        (on_attempt plan w name (finished plan w name o)) a h
        (λ test e. on_attempt-fine (op.Finish name o) (finished plan w name o) a e
        (tt, (refl, refl, refl, refl, refl, refl, refl))
        (λ spot there. finished-fine o
        (typed_at plan w name o spot there (subst (λ s. is_outcome_at plan o s ≡ true) there test)) spot))

  -- an attempt that nobody has claimed
  free_to_claim : (ls : List Launch) (l : Launch) → find (λ (x : Launch). not (is_claimed w x.name)) ls ≡ Some l
      → is_claimed w l.name ≡ false
  free_to_claim [] l e = absurd (none-some l e)
  free_to_claim (x ∷ xs) l e = by (is_claimed w x.name) refl e (free_to_claim xs l)
    where
      by : (b : Bool) → is_claimed w x.name ≡ b
          → cond (not b) (Some x) (find (λ (y : Launch). not (is_claimed w y.name)) xs) ≡ Some l
          → (find (λ (y : Launch). not (is_claimed w y.name)) xs ≡ Some l → is_claimed w l.name ≡ false)
          → is_claimed w l.name ≡ false
      by true same e rest = rest e
      by false same e rest = subst (λ (y : Launch). is_claimed w y.name ≡ false) (same_Some x l e) same

  claim-fine : (a : Answer) → on_claim w ≡ Some a → Fine op.Claim a
  claim-fine a h =
      subst (Fine op.Claim) (same_Some (option_map_or claimed (unclaimed w) (says reply.Nothing)) a h)
      (on_option (Fine op.Claim) claimed (unclaimed w) (says reply.Nothing)
      (λ l e. ((free_to_claim w.launches l e, (l, e, refl)), (refl, refl, refl, refl, refl, refl, refl)))
      (tt, (refl, refl, refl, refl, refl, refl, refl)))

  -- ---- writes

  next_version : (exec : Text) (moves : List Move) (at : ℕ × Execution) → execution_named w exec ≡ Some at
      → bad_move plan w (current_view w at) moves ≡ None
      → IsNextVersion plan w at (state_after plan (current_view w at) (map (cited_move w) moves))
  next_version exec moves at named good = record {
    exec = exec;
    moves = moves;
    named = named;
    round = good-round plan w (current_view w at) moves good;
    state_is = refl;
  }

  module _ (exec : Text) (base : ℕ) (moves : List Move) where
    moved-fine : (at : ℕ × Execution) (bad : Option ℕ) → execution_named w exec ≡ Some at
        → bad_move plan w (current_view w at) moves ≡ bad
        → Fine (op.Write exec base moves)
        (option_map_or (λ index. says (reply.IllegalMove index)) bad (with_moves plan w moves at))
    moved-fine at None named same =
        (next_version exec moves at named same, (refl, refl, refl, refl, refl, refl, refl))
    moved-fine at (Some index) named same = (tt, (refl, refl, refl, refl, refl, refl, refl))

    written-fine : (at : ℕ × Execution) → execution_named w exec ≡ Some at
        → Fine (op.Write exec base moves) (written plan w base moves at)
    written-fine at named =
        let bad = bad_move plan w (current_view w at) moves in
        tested (Fine (op.Write exec base moves)) (not (eqb base (current_of at.1)))
        (says (reply.Stale (current_of at.1)))
        (option_map_or (λ index. says (reply.IllegalMove index)) bad (with_moves plan w moves at))
        (λ e. (tt, (refl, refl, refl, refl, refl, refl, refl))) (λ e. moved-fine at bad named refl)

    write-fine : (a : Answer) → on_write plan w exec base moves ≡ Some a → Fine (op.Write exec base moves) a
    write-fine a h =
        allowed (Fine (op.Write exec base moves))
        (is_id_text exec && list_all (λ (m : Move). is_in_plan plan m.at) moves)
        (if_known (written plan w base moves) (execution_named w exec)) a h
        (on_option (Fine (op.Write exec base moves)) (written plan w base moves) (execution_named w exec)
        (says reply.Unknown) written-fine
        (tt, (refl, refl, refl, refl, refl, refl, refl)))

  -- ---- all operations

  pub step-fine : (worker : ℕ) (o : Op) (a : Answer) → step plan w worker o ≡ Some a → Permits plan w a.change
      × Tells w o a
  unfolding step
  step-fine worker (op.Begin closure) a h = begin-fine closure worker a h
  step-fine worker (op.Import dataset tag content) a h = import-fine dataset tag content a h
  step-fine worker (op.Submit exec inputs) a h = submit-fine exec inputs a h
  step-fine worker (op.Tick now) a h = tick-fine now a h
  step-fine worker op.Sweep a h = sweep-fine a h
  step-fine worker (op.Read from back) a h = read-fine from back a h
  step-fine worker (op.Lookup exec path) a h = lookup-fine exec path a h
  step-fine worker (op.Reserve exec path) a h = reserve-fine exec path a h
  step-fine worker (op.Launch name inputs) a h = launch-fine name inputs a h
  step-fine worker (op.Expire name) a h = expire-fine name a h
  step-fine worker (op.Put exec path) a h = on_put-fine exec path a h
  step-fine worker (op.Write exec base moves) a h = write-fine exec base moves a h
  step-fine worker op.Claim a h = claim-fine a h
  step-fine worker (op.Finish name o) a h = finish-fine name o a h
