-- An operation has one of its replies.
use Rattle.std.proofs.Common.{◌≡◌, ℕ, true, not, ◌&&◌, ◌||◌, eqb, ltb, List, [], ◌∷◌, length, Option, Some, None, is_some, refl, subst}
use Rattle.std.specs.List.{list_all, count_by}
use Rattle.std.specs.Option.{option_map_or}
use Rattle.std.proofs.lemmas.Option.{same_Some}
use Rattle.fly_types.specs.declared.text.Text.{Text}
use Rattle.fly_types.specs.declared.literals.LiteralMap.{LiteralMap}
use Rattle.fly_docs.specs.declared.attempt_name.AttemptName.{AttemptName}
use Rattle.fly_docs.specs.declared.task.Task.{Task}
use Rattle.fly_docs.specs.Templates.{is_id_text}
use Rattle.fly_policy.specs.declared.outcome.Outcome.{Outcome}
use Rattle.fly_catalog.specs.declared.parts.Reservation.{Reservation}
use Rattle.fly_catalog.specs.declared.requests.Grant.{Grant}
use Rattle.fly_catalog.specs.declared.requests.Grant.TheVariants as grant
use Rattle.fly_catalog.specs.Cached.{cached_dataset}
use Rattle.fly_catalog.specs.Requests.{tag_of, after_grant}
use Rattle.fly_state.specs.declared.entries.Op.{Op}
use Rattle.fly_state.specs.declared.entries.Op.TheVariants as op
use Rattle.fly_state.specs.declared.entries.Reply.TheVariants as reply
use Rattle.fly_state.specs.declared.moves.Move.{Move}
use Rattle.fly_state.specs.Moves.{is_queued, is_succeeding}
use Rattle.fly_state.specs.Plans.{RunPlan, Path}
use Rattle.fly_state.specs.States.{first_state, is_final, is_not_yet_started}
use Rattle.fly_world.specs.World.{World, Execution, Claim, is_submitted, is_launched, is_settled, unclaimed, claim_of, execution_named, current_of, current_view}
use Rattle.fly_world.specs.Changes.{catalog_becomes, lets_go, moment_becomes, adds_execution, adds_launch, adds_outcome}
use Rattle.fly_world.specs.Spots.{Spot, are_ids, spot_of, attempt_spot, cached_task, phase_at, tag_at, owner_at, slot_of, given_in, runs, has_inputs, is_ended}
use Rattle.fly_world.specs.Steps.{Answer, says, does, step, first_fitting, if_known, on_node, on_cached, on_attempt, if_claimed, is_opening, with_artifact_under, are_workflow_inputs, max_executions, submitted, next_moment, read_execution, viewed, cached_content, looked_up, grant_reply, grant_at, granted, reserved, put, launched, is_overdue, timed_out, expired, claimed, is_outcome_at, finished, is_in_plan, bad_move, with_moves, written}
use Rattle.fly_world.proofs.AnswerLemmas.{tested, on_option, allowed, allowed_behind}
use Rattle.fly_journal.specs.Replies.{is_reply_of}

-- the answer's reply is one of the operation's
abbrev pub Fits : Op → Answer → Type 0
Fits o a = is_reply_of o a.reply ≡ true

module _ (plan : RunPlan) (w : World) where
  -- on a node that may be unknown, by an operation that may find that
  on_spot : (o : Op) (exec : Text) (path : Path) (f : Spot → Answer) (a : Answer) → on_node plan w exec path f ≡ Some a
      → Fits o (says reply.Unknown) → ((spot : Spot) → Fits o (f spot)) → Fits o a
  on_spot o exec path f a h unknown each =
      allowed (Fits o) (are_ids exec path) (if_known f (spot_of plan w exec path)) a h
      (on_option (Fits o) f (spot_of plan w exec path) (says reply.Unknown) (λ spot e. each spot) unknown)

  on_task : (o : Op) (spot : Spot) (f : Task → Answer) → Fits o (says reply.NotReady) → ((t : Task) → Fits o (f t))
      → Fits o (on_cached plan spot f)
  on_task o spot f idle each =
      on_option (Fits o) f (cached_task plan spot.node) (says reply.NotReady) (λ t e. each t) idle

  on_name : (o : Op) (name : AttemptName) (f : Spot → Answer) (a : Answer) → on_attempt plan w name f ≡ Some a
      → Fits o (says reply.Unknown) → ((spot : Spot) → Fits o (f spot)) → Fits o a
  on_name o name f a h unknown each =
      allowed (Fits o) (are_ids name.exec name.path) (if_known f (attempt_spot plan w name)) a h
      (on_option (Fits o) f (attempt_spot plan w name) (says reply.Unknown) (λ spot e. each spot) unknown)

  on_claimed : (o : Op) (name : AttemptName) (f : Claim → Answer) → Fits o (says reply.NotClaimed)
      → ((c : Claim) → Fits o (f c)) → Fits o (if_claimed w name f)
  on_claimed o name f none each = on_option (Fits o) f (claim_of w name) (says reply.NotClaimed) (λ c e. each c) none

  looked : (exec : Text) (path : Path) (spot : Spot) (t : Task) → Fits (op.Lookup exec path) (looked_up w spot t)
  looked exec path spot t =
      let o = op.Lookup exec path in
      let hit : LiteralMap → Answer = λ content. says (reply.Hit content) in
      tested (Fits o) (not (is_queued (phase_at spot))) (says reply.NotReady)
      (option_map_or hit (cached_content w spot t) (says reply.Miss)) (λ e. refl)
      (λ e. on_option (Fits o) hit (cached_content w spot t) (says reply.Miss) (λ content e. refl) refl)

  grants : (exec : Text) (path : Path) (spot : Spot) (t : Task) (g : Grant)
      → Fits (op.Reserve exec path) (does (grant_reply g) (catalog_becomes
      (after_grant w.catalog (cached_dataset t) (tag_at spot) (owner_at spot) g)))
  grants exec path spot t (grant.Granted expiry) = refl
  grants exec path spot t (grant.HeldBy owner expiry) = refl

  reserves : (exec : Text) (path : Path) (spot : Spot) (t : Task) → Fits (op.Reserve exec path) (reserved w spot t)
  reserves exec path spot t =
      tested (Fits (op.Reserve exec path))
      (not t.serializable || is_not_yet_started (phase_at spot) || is_final (phase_at spot))
      (says reply.NotReady) (granted w spot t) (λ e. refl) (λ e. grants exec path spot t (grant_at w spot t))

  puts : (exec : Text) (path : Path) (spot : Spot) (t : Task) → Fits (op.Put exec path) (put w spot t)
  puts exec path spot t =
      let o = op.Put exec path in
      let done : Answer = does reply.Stored
      (catalog_becomes (with_artifact_under w.catalog (cached_dataset t) (tag_at spot) (given_in (slot_of spot)))) in
      let present = is_some (tag_of w.catalog (cached_dataset t) (tag_at spot)) in
      tested (Fits o) (not (is_succeeding (phase_at spot))) (says reply.NotReady)
      (first_fitting ((present, says reply.Present) ∷ []) done) (λ e. refl)
      (λ e. tested (Fits o) present (says reply.Present) done (λ e. refl) (λ e. refl))

  launches : (name : AttemptName) (inputs : LiteralMap) (spot : Spot)
      → Fits (op.Launch name inputs) (launched plan w name inputs spot)
  launches name inputs spot =
      let o = op.Launch name inputs in
      let done : Answer = does reply.Launched (adds_launch name inputs) in
      let idle = not (runs spot name) in
      let other = not (has_inputs plan spot name inputs) in
      tested (Fits o) (is_launched w name) (says reply.Already)
      (first_fitting ((idle, says reply.NotRunning) ∷ (other, says reply.BadInputs) ∷ []) done) (λ e. refl)
      (λ e. tested (Fits o) idle (says reply.NotRunning) (first_fitting ((other, says reply.BadInputs) ∷ []) done)
      (λ e. refl) (λ e. tested (Fits o) other (says reply.BadInputs) done (λ e. refl) (λ e. refl)))

  expires : (name : AttemptName) (spot : Spot) → Fits (op.Expire name) (expired plan w name spot)
  expires name spot =
      let o = op.Expire name in
      on_claimed o name (λ c. first_fitting ((is_settled w name, says reply.AlreadySettled)
      ∷ (not (is_overdue plan w spot c), says reply.NotDue) ∷ []) (timed_out name)) refl
      (λ c. tested (Fits o) (is_settled w name) (says reply.AlreadySettled)
      (first_fitting ((not (is_overdue plan w spot c), says reply.NotDue) ∷ []) (timed_out name)) (λ e. refl)
      (λ e. tested (Fits o) (not (is_overdue plan w spot c)) (says reply.NotDue) (timed_out name) (λ e. refl) (λ e. refl)))

  finishes : (name : AttemptName) (outcome : Outcome) (spot : Spot)
      → Fits (op.Finish name outcome) (finished plan w name outcome spot)
  finishes name outcome spot =
      let o = op.Finish name outcome in
      let done : Answer = does reply.Recorded (adds_outcome name outcome) in
      on_claimed o name (λ c. first_fitting ((is_settled w name, says reply.AlreadySettled)
      ∷ (is_overdue plan w spot c, timed_out name) ∷ []) done) refl
      (λ c. tested (Fits o) (is_settled w name) (says reply.AlreadySettled)
      (first_fitting ((is_overdue plan w spot c, timed_out name) ∷ []) done) (λ e. refl)
      (λ e. tested (Fits o) (is_overdue plan w spot c) (timed_out name) done (λ e. refl) (λ e. refl)))

  moved : (exec : Text) (base : ℕ) (moves : List Move) (at : ℕ × Execution) (bad : Option ℕ)
      → Fits (op.Write exec base moves)
      (option_map_or (λ index. says (reply.IllegalMove index)) bad (with_moves plan w moves at))
  moved exec base moves at None = refl
  moved exec base moves at (Some index) = refl

  writes : (exec : Text) (base : ℕ) (moves : List Move) (at : ℕ × Execution)
      → Fits (op.Write exec base moves) (written plan w base moves at)
  writes exec base moves at =
      let bad = bad_move plan w (current_view w at) moves in
      tested (Fits (op.Write exec base moves)) (not (eqb base (current_of at.1))) (says (reply.Stale (current_of at.1)))
      (option_map_or (λ index. says (reply.IllegalMove index)) bad (with_moves plan w moves at)) (λ e. refl)
      (λ e. moved exec base moves at bad)

  pub step_fits : (worker : ℕ) (o : Op) (a : Answer) → step plan w worker o ≡ Some a → Fits o a
  unfolding step
  step_fits worker (op.Begin closure) a h =
      allowed (Fits (op.Begin closure)) (eqb worker 0 && eqb (length w.entries) 0) (says reply.Begun) a h refl
  step_fits worker (op.Import d tag content) a h =
      allowed (Fits (op.Import d tag content)) (is_opening w && not (is_some (tag_of w.catalog d tag)))
      (does reply.Imported (catalog_becomes (with_artifact_under w.catalog d tag content))) a h refl
  step_fits worker (op.Submit exec inputs) a h =
      let o = op.Submit exec inputs in
      allowed (Fits o) (is_id_text exec && are_workflow_inputs plan inputs &&
      (is_submitted w exec || ltb (length w.executions) max_executions)) (submitted plan w exec inputs) a h
      (tested (Fits o) (is_submitted w exec) (says reply.Taken)
      (does reply.Submitted (adds_execution exec inputs (first_state plan inputs))) (λ e. refl) (λ e. refl))
  step_fits worker (op.Tick now) a h =
      subst (Fits (op.Tick now))
      (same_Some (does (reply.Now (next_moment w now)) (moment_becomes (next_moment w now))) a h) refl
  step_fits worker op.Sweep a h =
      subst (Fits op.Sweep) (same_Some
      (does (reply.Swept (count_by (λ (r : Reservation). is_ended plan w r.owner) w.catalog.reservations))
      (lets_go (is_ended plan w))) a h) refl
  step_fits worker (op.Read from back) a h =
      let o = op.Read from back in
      subst (Fits o) (same_Some (option_map_or (viewed back) (read_execution w from) (says reply.Idle)) a h)
      (on_option (Fits o) (viewed back) (read_execution w from) (says reply.Idle) (λ at e. refl) refl)
  step_fits worker (op.Lookup exec path) a h =
      let o = op.Lookup exec path in
      on_spot o exec path (λ spot. on_cached plan spot (looked_up w spot)) a h refl
      (λ spot. on_task o spot (looked_up w spot) refl (looked exec path spot))
  step_fits worker (op.Reserve exec path) a h =
      let o = op.Reserve exec path in
      on_spot o exec path (λ spot. on_cached plan spot (reserved w spot)) a h refl
      (λ spot. on_task o spot (reserved w spot) refl (reserves exec path spot))
  step_fits worker (op.Launch name inputs) a h =
      on_name (op.Launch name inputs) name (launched plan w name inputs) a h refl (launches name inputs)
  step_fits worker (op.Expire name) a h =
      on_name (op.Expire name) name (expired plan w name) a h refl (expires name)
  step_fits worker (op.Put exec path) a h =
      let o = op.Put exec path in
      on_spot o exec path (λ spot. on_cached plan spot (put w spot)) a h refl
      (λ spot. on_task o spot (put w spot) refl (puts exec path spot))
  step_fits worker (op.Write exec base moves) a h =
      let o = op.Write exec base moves in
      allowed (Fits o) (is_id_text exec && list_all (λ (m : Move). is_in_plan plan m.at) moves)
      (if_known (written plan w base moves) (execution_named w exec)) a h
      (on_option (Fits o) (written plan w base moves) (execution_named w exec) (says reply.Unknown)
      (λ at e. writes exec base moves at) refl)
  step_fits worker op.Claim a h =
      subst (Fits op.Claim) (same_Some (option_map_or claimed (unclaimed w) (says reply.Nothing)) a h)
      (on_option (Fits op.Claim) claimed (unclaimed w) (says reply.Nothing) (λ l e. refl) refl)
  step_fits worker (op.Finish name outcome) a h =
      let o = op.Finish name outcome in
      allowed_behind (Fits o) (is_outcome_at plan outcome (attempt_spot plan w name))
      (on_attempt plan w name (finished plan w name outcome)) a h
      (λ test e. on_name o name (finished plan w name outcome) a e refl (finishes name outcome))
