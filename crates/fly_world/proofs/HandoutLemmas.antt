-- What a step hands out is launched.
use Rattle.std.proofs.Common.{◌≡◌, inl, inr, ℕ, Bool, true, false, cond, not, ◌&&◌, ◌||◌, eqb, ltb, List, [], ◌∷◌, length, find, Option, Some, None, is_some, refl, sym, subst, ap}
use Rattle.std.specs.List.{list_all, count_by}
use Rattle.std.specs.Option.{option_map_or}
use Rattle.std.proofs.lemmas.Option.{none-some, same_Some}
use Rattle.fly_types.specs.declared.text.Text.{Text}
use Rattle.fly_types.specs.declared.literals.LiteralMap.{LiteralMap}
use Rattle.fly_docs.specs.declared.attempt_name.AttemptName.{AttemptName}
use Rattle.fly_docs.specs.declared.task.Task.{Task}
use Rattle.fly_docs.specs.Templates.{is_id_text}
use Rattle.fly_policy.specs.declared.outcome.Outcome.{Outcome}
use Rattle.fly_catalog.specs.declared.parts.Reservation.{Reservation}
use Rattle.fly_catalog.specs.declared.requests.Grant.{Grant}
use Rattle.fly_catalog.specs.declared.requests.Grant.TheVariants as grant
use Rattle.fly_catalog.specs.Cached.{cached_dataset}
use Rattle.fly_catalog.specs.Requests.{tag_of, after_grant}
use Rattle.fly_state.specs.declared.entries.Entry.{Entry}
use Rattle.fly_state.specs.declared.entries.Op.{Op}
use Rattle.fly_state.specs.declared.entries.Op.TheVariants as op
use Rattle.fly_state.specs.declared.entries.Reply.{Reply}
use Rattle.fly_state.specs.declared.entries.Reply.TheVariants as reply
use Rattle.fly_state.specs.declared.moves.Move.{Move}
use Rattle.fly_state.specs.Moves.{is_queued, is_succeeding}
use Rattle.fly_state.specs.Plans.{RunPlan, Path}
use Rattle.fly_state.specs.Rounds.{state_after}
use Rattle.fly_state.specs.States.{first_state, is_final, is_not_yet_started}
use Rattle.fly_world.specs.World.{World, Execution, Launch, Claim, same_name, is_submitted, is_launched, is_settled, unclaimed, claim_of, execution_named, current_of, current_view}
use Rattle.fly_world.specs.Changes.{with_change, with_entry, catalog_becomes, lets_go, moment_becomes, adds_execution, adds_launch, adds_outcome}
use Rattle.fly_world.specs.Journals.{IsStepBy, Step}
use Rattle.fly_world.specs.Kept.{IsLaunchedReply}
use Rattle.fly_world.specs.Spots.{Spot, are_ids, spot_of, attempt_spot, cached_task, phase_at, tag_at, owner_at, slot_of, given_in, runs, has_inputs, is_ended}
use Rattle.fly_world.specs.Steps.{Answer, says, does, step, first_fitting, if_known, on_node, on_cached, on_attempt, if_claimed, on_begin, is_opening, with_artifact_under, on_import, are_workflow_inputs, max_executions, submitted, on_submit, next_moment, on_tick, on_sweep, read_execution, viewed, on_read, cached_content, looked_up, on_lookup, grant_reply, grant_at, granted, reserved, on_reserve, put, on_put, launched, on_launch, is_overdue, timed_out, expired, on_expire, claimed, on_claim, is_outcome_at, finished, on_finish, is_in_plan, cited_move, bad_move, with_moves, written, on_write}
use Rattle.fly_world.proofs.AnswerLemmas.{tested, on_option, allowed, allowed_behind}
use Rattle.fly_world.proofs.LaunchLemmas.{same_name-refl}

-- a launch that is found among these is found by its name
named_there : (p : Launch → Bool) (launches : List Launch) (l : Launch) → find p launches ≡ Some l
    → is_some (find (λ (x : Launch). same_name l.name x.name) launches) ≡ true
named_there p [] l h = absurd (none-some l h)
named_there p (x ∷ xs) l h = by (p x) h (named_there p xs l)
  where
    skipped : (b : Bool) → is_some (find (λ (y : Launch). same_name l.name y.name) xs) ≡ true
        → is_some (cond b (Some x) (find (λ (y : Launch). same_name l.name y.name) xs)) ≡ true
    skipped true rest = refl
    skipped false rest = rest

    by : (b : Bool) → cond b (Some x) (find p xs) ≡ Some l
        → (find p xs ≡ Some l → is_some (find (λ (y : Launch). same_name l.name y.name) xs) ≡ true)
        → is_some (cond (same_name l.name x.name) (Some x) (find (λ (y : Launch). same_name l.name y.name) xs)) ≡ true
    by true e rest =
        subst (λ (y : Launch). is_some (cond (same_name y.name x.name) (Some x)
        (find (λ (z : Launch). same_name y.name z.name) xs)) ≡ true) (same_Some x l e)
        (ap (λ b. is_some (cond b (Some x) (find (λ (z : Launch). same_name x.name z.name) xs)))
        (same_name-refl x.name))
    by false e rest = skipped (same_name l.name x.name) (rest e)

module _ (plan : RunPlan) (w : World) (entry : Entry) where
  -- the answer hands out what is launched
  abbrev Hands : Answer → Type 0
  Hands a = IsLaunchedReply (with_entry (with_change w a.change) entry) a.reply

  hands_node : (exec : Text) (path : Path) (f : Spot → Answer) (a : Answer) → on_node plan w exec path f ≡ Some a
      → ((spot : Spot) → Hands (f spot)) → Hands a
  hands_node exec path f a h each =
      allowed Hands (are_ids exec path) (if_known f (spot_of plan w exec path)) a h
      (on_option Hands f (spot_of plan w exec path) (says reply.Unknown) (λ spot e. each spot) tt)

  hands_cached : (spot : Spot) (f : Task → Answer) → ((t : Task) → Hands (f t)) → Hands (on_cached plan spot f)
  hands_cached spot f each =
      on_option Hands f (cached_task plan spot.node) (says reply.NotReady) (λ t e. each t) tt

  hands_looked : (spot : Spot) (t : Task) → Hands (looked_up w spot t)
  hands_looked spot t =
      let hit : LiteralMap → Answer = λ content. says (reply.Hit content) in
      tested Hands (not (is_queued (phase_at spot))) (says reply.NotReady)
      (option_map_or hit (cached_content w spot t) (says reply.Miss)) (λ e. tt)
      (λ e. on_option Hands hit (cached_content w spot t) (says reply.Miss) (λ content e. tt) tt)

  hands_granted : (spot : Spot) (t : Task) (g : Grant)
      → Hands (does (grant_reply g) (catalog_becomes
      (after_grant w.catalog (cached_dataset t) (tag_at spot) (owner_at spot) g)))
  hands_granted spot t (grant.Granted expiry) = tt
  hands_granted spot t (grant.HeldBy owner expiry) = tt

  hands_reserved : (spot : Spot) (t : Task) → Hands (reserved w spot t)
  hands_reserved spot t =
      tested Hands (not t.serializable || is_not_yet_started (phase_at spot) || is_final (phase_at spot))
      (says reply.NotReady) (granted w spot t) (λ e. tt) (λ e. hands_granted spot t (grant_at w spot t))

  hands_put : (spot : Spot) (t : Task) → Hands (put w spot t)
  hands_put spot t =
      let done : Answer = does reply.Stored
      (catalog_becomes (with_artifact_under w.catalog (cached_dataset t) (tag_at spot) (given_in (slot_of spot)))) in
      let present = is_some (tag_of w.catalog (cached_dataset t) (tag_at spot)) in
      tested Hands (not (is_succeeding (phase_at spot))) (says reply.NotReady)
      (first_fitting ((present, says reply.Present) ∷ []) done) (λ e. tt)
      (λ e. tested Hands present (says reply.Present) done (λ e. tt) (λ e. tt))

  hands_attempt : (name : AttemptName) (f : Spot → Answer) (a : Answer) → on_attempt plan w name f ≡ Some a
      → ((spot : Spot) → Hands (f spot)) → Hands a
  hands_attempt name f a h each =
      allowed Hands (are_ids name.exec name.path) (if_known f (attempt_spot plan w name)) a h
      (on_option Hands f (attempt_spot plan w name) (says reply.Unknown) (λ spot e. each spot) tt)

  hands_launched : (name : AttemptName) (inputs : LiteralMap) (spot : Spot) → Hands (launched plan w name inputs spot)
  hands_launched name inputs spot =
      let done : Answer = does reply.Launched (adds_launch name inputs) in
      let idle = not (runs spot name) in
      let other = not (has_inputs plan spot name inputs) in
      tested Hands (is_launched w name) (says reply.Already)
      (first_fitting ((idle, says reply.NotRunning) ∷ (other, says reply.BadInputs) ∷ []) done) (λ e. tt)
      (λ e. tested Hands idle (says reply.NotRunning) (first_fitting ((other, says reply.BadInputs) ∷ []) done)
      (λ e. tt) (λ e. tested Hands other (says reply.BadInputs) done (λ e. tt) (λ e. tt)))

  hands_claimed : (name : AttemptName) (f : Claim → Answer) → ((c : Claim) → Hands (f c)) → Hands (if_claimed w name f)
  hands_claimed name f each = on_option Hands f (claim_of w name) (says reply.NotClaimed) (λ c e. each c) tt

  hands_expired : (name : AttemptName) (spot : Spot) → Hands (expired plan w name spot)
  hands_expired name spot =
      hands_claimed name (λ c. first_fitting ((is_settled w name, says reply.AlreadySettled)
      ∷ (not (is_overdue plan w spot c), says reply.NotDue) ∷ []) (timed_out name))
      (λ c. tested Hands (is_settled w name) (says reply.AlreadySettled)
      (first_fitting ((not (is_overdue plan w spot c), says reply.NotDue) ∷ []) (timed_out name)) (λ e. tt)
      (λ e. tested Hands (not (is_overdue plan w spot c)) (says reply.NotDue) (timed_out name) (λ e. tt) (λ e. tt)))

  hands_finished : (name : AttemptName) (o : Outcome) (spot : Spot) → Hands (finished plan w name o spot)
  hands_finished name o spot =
      let done : Answer = does reply.Recorded (adds_outcome name o) in
      hands_claimed name (λ c. first_fitting ((is_settled w name, says reply.AlreadySettled)
      ∷ (is_overdue plan w spot c, timed_out name) ∷ []) done)
      (λ c. tested Hands (is_settled w name) (says reply.AlreadySettled)
      (first_fitting ((is_overdue plan w spot c, timed_out name) ∷ []) done) (λ e. tt)
      (λ e. tested Hands (is_overdue plan w spot c) (timed_out name) done (λ e. tt) (λ e. tt)))

  hands_moved : (moves : List Move) (at : ℕ × Execution) (bad : Option ℕ)
      → Hands (option_map_or (λ index. says (reply.IllegalMove index)) bad (with_moves plan w moves at))
  hands_moved moves at None = tt
  hands_moved moves at (Some index) = tt

  hands_written : (base : ℕ) (moves : List Move) (at : ℕ × Execution) → Hands (written plan w base moves at)
  hands_written base moves at =
      let bad = bad_move plan w (current_view w at) moves in
      tested Hands (not (eqb base (current_of at.1))) (says (reply.Stale (current_of at.1)))
      (option_map_or (λ index. says (reply.IllegalMove index)) bad (with_moves plan w moves at)) (λ e. tt)
      (λ e. hands_moved moves at bad)

  step-hands : (worker : ℕ) (o : Op) (a : Answer) → step plan w worker o ≡ Some a → Hands a
  unfolding step
  step-hands worker (op.Begin closure) a h =
      allowed Hands (eqb worker 0 && eqb (length w.entries) 0) (says reply.Begun) a h tt
  step-hands worker (op.Import d tag content) a h =
      allowed Hands (is_opening w && not (is_some (tag_of w.catalog d tag)))
      (does reply.Imported (catalog_becomes (with_artifact_under w.catalog d tag content))) a h tt
  step-hands worker (op.Submit exec inputs) a h =
      allowed Hands (is_id_text exec && are_workflow_inputs plan inputs &&
      (is_submitted w exec || ltb (length w.executions) max_executions)) (submitted plan w exec inputs) a h
      (tested Hands (is_submitted w exec) (says reply.Taken)
      (does reply.Submitted (adds_execution exec inputs (first_state plan inputs))) (λ e. tt) (λ e. tt))
  step-hands worker (op.Tick now) a h =
      subst Hands (same_Some (does (reply.Now (next_moment w now)) (moment_becomes (next_moment w now))) a h) tt
  step-hands worker op.Sweep a h =
      subst Hands (same_Some
      (does (reply.Swept (count_by (λ (r : Reservation). is_ended plan w r.owner) w.catalog.reservations))
      (lets_go (is_ended plan w))) a h) tt
  step-hands worker (op.Read from back) a h =
      subst Hands (same_Some (option_map_or (viewed back) (read_execution w from) (says reply.Idle)) a h)
      (on_option Hands (viewed back) (read_execution w from) (says reply.Idle) (λ at e. tt) tt)
  step-hands worker (op.Lookup exec path) a h =
      hands_node exec path (λ spot. on_cached plan spot (looked_up w spot)) a h
      (λ spot. hands_cached spot (looked_up w spot) (hands_looked spot))
  step-hands worker (op.Reserve exec path) a h =
      hands_node exec path (λ spot. on_cached plan spot (reserved w spot)) a h
      (λ spot. hands_cached spot (reserved w spot) (hands_reserved spot))
  step-hands worker (op.Launch name inputs) a h =
      hands_attempt name (launched plan w name inputs) a h (hands_launched name inputs)
  step-hands worker (op.Expire name) a h = hands_attempt name (expired plan w name) a h (hands_expired name)
  step-hands worker (op.Put exec path) a h =
      hands_node exec path (λ spot. on_cached plan spot (put w spot)) a h
      (λ spot. hands_cached spot (put w spot) (hands_put spot))
  step-hands worker (op.Write exec base moves) a h =
      allowed Hands (is_id_text exec && list_all (λ (m : Move). is_in_plan plan m.at) moves)
      (if_known (written plan w base moves) (execution_named w exec)) a h
      (on_option Hands (written plan w base moves) (execution_named w exec) (says reply.Unknown)
      (λ at e. hands_written base moves at) tt)
  step-hands worker op.Claim a h =
      subst Hands (same_Some (option_map_or claimed (unclaimed w) (says reply.Nothing)) a h)
      (on_option Hands claimed (unclaimed w) (says reply.Nothing) (λ l e. named_there _ w.launches l e) tt)
  step-hands worker (op.Finish name o) a h =
      allowed_behind Hands (is_outcome_at plan o (attempt_spot plan w name))
      (on_attempt plan w name (finished plan w name o)) a h
      (λ test e. hands_attempt name (finished plan w name o) a e (hands_finished name o))

-- what the reply of an entry hands out is launched in the world after it
pub step-launched : (plan : RunPlan) (w new : World) (e : Entry) → Step plan w e new → IsLaunchedReply new e.reply
step-launched plan w new e s = by (step plan w e.worker e.op) refl s
  where
    by : (o : Option Answer) → step plan w e.worker e.op ≡ o → IsStepBy w e new o → IsLaunchedReply new e.reply
    by None h s = absurd s
    by (Some a) h (inl answered) =
        subst (λ v. IsLaunchedReply v e.reply) (sym answered.world)
        (subst (IsLaunchedReply (with_entry (with_change w a.change) e)) (sym answered.reply)
        (step-hands plan w e e.worker e.op a h))
    by (Some a) h (inr kept) = subst (IsLaunchedReply new) (sym kept.reply) tt
