-- Operations that make no version, submit nothing and claim nothing.
use Rattle.std.proofs.Common.{◌≡◌, inl, inr, ℕ, Bool, true, false, not, ◌||◌, [], ◌∷◌, Option, Some, None, is_some, refl, sym, subst}
use Rattle.std.specs.List.{count_by}
use Rattle.std.specs.Option.{option_map_or}
use Rattle.std.proofs.lemmas.Bool.{false≢true}
use Rattle.std.proofs.lemmas.Option.{same_Some}
use Rattle.fly_types.specs.declared.text.Text.{Text}
use Rattle.fly_types.specs.declared.literals.LiteralMap.{LiteralMap}
use Rattle.fly_docs.specs.declared.attempt_name.AttemptName.{AttemptName}
use Rattle.fly_docs.specs.declared.task.Task.{Task}
use Rattle.fly_catalog.specs.declared.parts.Reservation.{Reservation}
use Rattle.fly_catalog.specs.declared.requests.Grant.{Grant}
use Rattle.fly_catalog.specs.declared.requests.Grant.TheVariants as grant
use Rattle.fly_catalog.specs.Cached.{cached_dataset}
use Rattle.fly_catalog.specs.Requests.{tag_of, after_grant}
use Rattle.fly_state.specs.declared.entries.Entry.{Entry}
use Rattle.fly_state.specs.declared.entries.Op.{Op}
use Rattle.fly_state.specs.declared.entries.Op.TheVariants as op
use Rattle.fly_state.specs.declared.entries.Reply.TheVariants as reply
use Rattle.fly_state.specs.Moves.{is_queued, is_succeeding}
use Rattle.fly_state.specs.Plans.{RunPlan, Path}
use Rattle.fly_state.specs.States.{is_final, is_not_yet_started}
use Rattle.fly_world.specs.World.{World, Claim, is_launched, is_settled, claim_of}
use Rattle.fly_world.specs.Changes.{Change, no_change, moment_becomes, catalog_becomes, lets_go, adds_execution, adds_launch, adds_claim, adds_outcome, adds_version, with_change, with_entry}
use Rattle.fly_world.specs.Journals.{IsStepBy, Step}
use Rattle.fly_world.specs.Spots.{Spot, are_ids, spot_of, attempt_spot, cached_task, phase_at, tag_at, owner_at, slot_of, given_in, runs, has_inputs, is_ended}
use Rattle.fly_world.specs.Steps.{Answer, says, does, step, first_fitting, if_known, on_node, on_cached, on_attempt, with_artifact_under, next_moment, read_execution, viewed, cached_content, looked_up, grant_reply, grant_at, granted, reserved, put, launched, is_overdue, timed_out, expired}
use Rattle.fly_world.proofs.AnswerLemmas.{tested, on_option, allowed}

-- an operation that a turn makes before it writes or claims
abbrev pub is_quiet : Op → Bool
is_quiet (op.Tick now) = true
is_quiet op.Sweep = true
is_quiet (op.Read from back) = true
is_quiet (op.Lookup exec path) = true
is_quiet (op.Reserve exec path) = true
is_quiet (op.Launch name inputs) = true
is_quiet (op.Expire name) = true
is_quiet (op.Put exec path) = true
is_quiet _ = false

-- the change leaves the executions and the claims as they are
abbrev leaves : Change → Bool
leaves (adds_execution name inputs state) = false
leaves (adds_claim name) = false
leaves (adds_version at state) = false
leaves _ = true

-- The executions and the claims are as they were.
pub record IsQuietStep (w new : World) : Type 0 where
  pub executions : new.executions ≡ w.executions
  pub claims : new.claims ≡ w.claims

module _ (plan : RunPlan) (w : World) where
  abbrev Leaves : Answer → Type 0
  Leaves a = leaves a.change ≡ true

  leaves_node : (exec : Text) (path : Path) (f : Spot → Answer) (a : Answer) → on_node plan w exec path f ≡ Some a
      → ((spot : Spot) → Leaves (f spot)) → Leaves a
  leaves_node exec path f a h each =
      allowed Leaves (are_ids exec path) (if_known f (spot_of plan w exec path)) a h
      (on_option Leaves f (spot_of plan w exec path) (says reply.Unknown) (λ spot e. each spot) refl)

  leaves_cached : (spot : Spot) (f : Task → Answer) → ((t : Task) → Leaves (f t)) → Leaves (on_cached plan spot f)
  leaves_cached spot f each =
      on_option Leaves f (cached_task plan spot.node) (says reply.NotReady) (λ t e. each t) refl

  leaves_looked : (spot : Spot) (t : Task) → Leaves (looked_up w spot t)
  leaves_looked spot t =
      let hit : LiteralMap → Answer = λ content. says (reply.Hit content) in
      tested Leaves (not (is_queued (phase_at spot))) (says reply.NotReady)
      (option_map_or hit (cached_content w spot t) (says reply.Miss)) (λ e. refl)
      (λ e. on_option Leaves hit (cached_content w spot t) (says reply.Miss) (λ content e. refl) refl)

  leaves_granted : (spot : Spot) (t : Task) (g : Grant)
      → Leaves (does (grant_reply g) (catalog_becomes
      (after_grant w.catalog (cached_dataset t) (tag_at spot) (owner_at spot) g)))
  leaves_granted spot t (grant.Granted expiry) = refl
  leaves_granted spot t (grant.HeldBy owner expiry) = refl

  leaves_reserved : (spot : Spot) (t : Task) → Leaves (reserved w spot t)
  leaves_reserved spot t =
      tested Leaves (not t.serializable || is_not_yet_started (phase_at spot) || is_final (phase_at spot))
      (says reply.NotReady) (granted w spot t) (λ e. refl) (λ e. leaves_granted spot t (grant_at w spot t))

  leaves_put : (spot : Spot) (t : Task) → Leaves (put w spot t)
  leaves_put spot t =
      let done : Answer = does reply.Stored
      (catalog_becomes (with_artifact_under w.catalog (cached_dataset t) (tag_at spot) (given_in (slot_of spot)))) in
      let present = is_some (tag_of w.catalog (cached_dataset t) (tag_at spot)) in
      tested Leaves (not (is_succeeding (phase_at spot))) (says reply.NotReady)
      (first_fitting ((present, says reply.Present) ∷ []) done) (λ e. refl)
      (λ e. tested Leaves present (says reply.Present) done (λ e. refl) (λ e. refl))

  leaves_attempt : (name : AttemptName) (f : Spot → Answer) (a : Answer) → on_attempt plan w name f ≡ Some a
      → ((spot : Spot) → Leaves (f spot)) → Leaves a
  leaves_attempt name f a h each =
      allowed Leaves (are_ids name.exec name.path) (if_known f (attempt_spot plan w name)) a h
      (on_option Leaves f (attempt_spot plan w name) (says reply.Unknown) (λ spot e. each spot) refl)

  leaves_launched : (name : AttemptName) (inputs : LiteralMap) (spot : Spot)
      → Leaves (launched plan w name inputs spot)
  leaves_launched name inputs spot =
      let done : Answer = does reply.Launched (adds_launch name inputs) in
      let idle = not (runs spot name) in
      let other = not (has_inputs plan spot name inputs) in
      tested Leaves (is_launched w name) (says reply.Already)
      (first_fitting ((idle, says reply.NotRunning) ∷ (other, says reply.BadInputs) ∷ []) done) (λ e. refl)
      (λ e. tested Leaves idle (says reply.NotRunning) (first_fitting ((other, says reply.BadInputs) ∷ []) done)
      (λ e. refl) (λ e. tested Leaves other (says reply.BadInputs) done (λ e. refl) (λ e. refl)))

  leaves_expired : (name : AttemptName) (spot : Spot) → Leaves (expired plan w name spot)
  leaves_expired name spot =
      let by : Claim → Answer =
      λ c. first_fitting ((is_settled w name, says reply.AlreadySettled)
      ∷ (not (is_overdue plan w spot c), says reply.NotDue) ∷ []) (timed_out name) in
      on_option Leaves by (claim_of w name) (says reply.NotClaimed)
      (λ c e. tested Leaves (is_settled w name) (says reply.AlreadySettled)
      (first_fitting ((not (is_overdue plan w spot c), says reply.NotDue) ∷ []) (timed_out name)) (λ e. refl)
      (λ e. tested Leaves (not (is_overdue plan w spot c)) (says reply.NotDue) (timed_out name) (λ e. refl)
      (λ e. refl))) refl

  step-leaves : (worker : ℕ) (o : Op) (a : Answer) → is_quiet o ≡ true → step plan w worker o ≡ Some a → Leaves a
  unfolding step
  step-leaves worker (op.Tick now) a quiet h =
      subst Leaves (same_Some (does (reply.Now (next_moment w now)) (moment_becomes (next_moment w now))) a h) refl
  step-leaves worker op.Sweep a quiet h =
      subst Leaves (same_Some
      (does (reply.Swept (count_by (λ (r : Reservation). is_ended plan w r.owner) w.catalog.reservations))
      (lets_go (is_ended plan w))) a h) refl
  step-leaves worker (op.Read from back) a quiet h =
      subst Leaves (same_Some (option_map_or (viewed back) (read_execution w from) (says reply.Idle)) a h)
      (on_option Leaves (viewed back) (read_execution w from) (says reply.Idle) (λ at e. refl) refl)
  step-leaves worker (op.Lookup exec path) a quiet h =
      leaves_node exec path (λ spot. on_cached plan spot (looked_up w spot)) a h
      (λ spot. leaves_cached spot (looked_up w spot) (leaves_looked spot))
  step-leaves worker (op.Reserve exec path) a quiet h =
      leaves_node exec path (λ spot. on_cached plan spot (reserved w spot)) a h
      (λ spot. leaves_cached spot (reserved w spot) (leaves_reserved spot))
  step-leaves worker (op.Launch name inputs) a quiet h =
      leaves_attempt name (launched plan w name inputs) a h (leaves_launched name inputs)
  step-leaves worker (op.Expire name) a quiet h = leaves_attempt name (expired plan w name) a h (leaves_expired name)
  step-leaves worker (op.Put exec path) a quiet h =
      leaves_node exec path (λ spot. on_cached plan spot (put w spot)) a h
      (λ spot. leaves_cached spot (put w spot) (leaves_put spot))
  step-leaves worker _ a quiet h = absurd (false≢true quiet)

  change-quiet : (c : Change) (e : Entry) → leaves c ≡ true → IsQuietStep w (with_entry (with_change w c) e)
  change-quiet no_change e h = record { executions = refl; claims = refl }
  change-quiet (moment_becomes moment) e h = record { executions = refl; claims = refl }
  change-quiet (catalog_becomes catalog) e h = record { executions = refl; claims = refl }
  change-quiet (lets_go ends) e h = record { executions = refl; claims = refl }
  change-quiet (adds_launch name inputs) e h = record { executions = refl; claims = refl }
  change-quiet (adds_outcome name o) e h = record { executions = refl; claims = refl }
  change-quiet _ e h = absurd (false≢true h)

  -- the executions and the claims are as they were
  pub quiet-step : (new : World) (e : Entry) → is_quiet e.op ≡ true → Step plan w e new → IsQuietStep w new
  quiet-step new e quiet s = by (step plan w e.worker e.op) refl s
    where
      by : (o : Option Answer) → step plan w e.worker e.op ≡ o → IsStepBy w e new o → IsQuietStep w new
      by None is s = absurd s
      by (Some a) is (inl done) =
          subst (IsQuietStep w) (sym done.world) (change-quiet a.change e (step-leaves e.worker e.op a quiet is))
      by (Some a) is (inr refused) =
          subst (IsQuietStep w) (sym refused.world) (record { executions = refl; claims = refl })
