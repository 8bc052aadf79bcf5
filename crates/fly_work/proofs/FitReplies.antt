-- Only a read is answered Idle, and only a claim Claimed.
use Rattle.std.proofs.Common.{◌≡◌, inl, inr, ℕ, Bool, true, false, not, ◌&&◌, ◌||◌, eqb, ltb, List, [], ◌∷◌, length, map, All, Option, Some, None, is_some, refl, sym, subst, ◌∙◌}
use Rattle.std.specs.List.{list_all, count_by}
use Rattle.std.specs.Option.{option_map_or}
use Rattle.std.proofs.lemmas.Bool.{true≢false, false≢true}
use Rattle.std.proofs.lemmas.List.Elements.{All-nil, All-cons}
use Rattle.std.proofs.lemmas.Option.{same_Some}
use Rattle.fly_types.specs.declared.text.Text.{Text}
use Rattle.fly_types.specs.declared.literals.LiteralMap.{LiteralMap}
use Rattle.fly_docs.specs.declared.attempt_name.AttemptName.{AttemptName}
use Rattle.fly_docs.specs.declared.task.Task.{Task}
use Rattle.fly_docs.specs.Templates.{is_id_text}
use Rattle.fly_policy.specs.declared.outcome.Outcome.{Outcome}
use Rattle.fly_catalog.specs.declared.parts.Reservation.{Reservation}
use Rattle.fly_catalog.specs.declared.requests.Grant.{Grant}
use Rattle.fly_catalog.specs.declared.requests.Grant.TheVariants as grant
use Rattle.fly_catalog.specs.Cached.{cached_dataset}
use Rattle.fly_catalog.specs.Requests.{tag_of, after_grant}
use Rattle.fly_state.specs.declared.entries.Entry.{Entry}
use Rattle.fly_state.specs.declared.entries.Op.{Op}
use Rattle.fly_state.specs.declared.entries.Op.TheVariants as op
use Rattle.fly_state.specs.declared.entries.Reply.{Reply}
use Rattle.fly_state.specs.declared.entries.Reply.TheVariants as reply
use Rattle.fly_state.specs.declared.moves.Move.{Move}
use Rattle.fly_state.specs.Moves.{is_queued, is_succeeding}
use Rattle.fly_state.specs.Plans.{RunPlan, Path}
use Rattle.fly_state.specs.States.{first_state, is_final, is_not_yet_started}
use Rattle.fly_world.specs.World.{World, Execution, Claim, is_submitted, is_launched, is_settled, unclaimed, claim_of, execution_named, current_of, current_view}
use Rattle.fly_world.specs.Changes.{catalog_becomes, lets_go, moment_becomes, adds_execution, adds_launch, adds_outcome}
use Rattle.fly_world.specs.Journals.{IsStepBy, Step, Leads}
use Rattle.fly_world.specs.Spots.{Spot, are_ids, spot_of, attempt_spot, cached_task, phase_at, tag_at, owner_at, slot_of, given_in, runs, has_inputs, is_ended}
use Rattle.fly_world.specs.Steps.{Answer, says, does, step, first_fitting, if_known, on_node, on_cached, on_attempt, if_claimed, is_opening, with_artifact_under, are_workflow_inputs, max_executions, submitted, next_moment, read_execution, viewed, cached_content, looked_up, grant_reply, grant_at, granted, reserved, put, launched, is_overdue, timed_out, expired, claimed, is_outcome_at, finished, is_in_plan, bad_move, with_moves, written}
use Rattle.fly_world.proofs.AnswerLemmas.{tested, on_option, allowed, allowed_behind}
use Rattle.fly_round.specs.declared.told.Told.{Told}
use Rattle.fly_work.specs.Turns.{call_entry, is_claimed_reply, is_idle_reply, is_read_op}

abbrev pub is_claim_op : Op → Bool
is_claim_op op.Claim = true
is_claim_op _ = false

-- the reply tells neither that all is over nor of a claim, but where the operation asks for that
abbrev pub IsFit : Op → Reply → Type 0
IsFit o r = (is_idle_reply r ≡ true → is_read_op o ≡ true) × (is_claimed_reply r ≡ true → is_claim_op o ≡ true)

-- it tells neither
abbrev IsPlain : Reply → Type 0
IsPlain r = (is_idle_reply r ≡ false) × (is_claimed_reply r ≡ false)

fit-plain : (o : Op) (r : Reply) → IsPlain r → IsFit o r
fit-plain o r plain = (λ e. absurd (true≢false (sym e ∙ plain.0)), λ e. absurd (true≢false (sym e ∙ plain.1)))

module _ (plan : RunPlan) (w : World) where
  abbrev Plain : Answer → Type 0
  Plain a = IsPlain a.reply

  plain_node : (exec : Text) (path : Path) (f : Spot → Answer) (a : Answer) → on_node plan w exec path f ≡ Some a
      → ((spot : Spot) → Plain (f spot)) → Plain a
  plain_node exec path f a h each =
      allowed Plain (are_ids exec path) (if_known f (spot_of plan w exec path)) a h
      (on_option Plain f (spot_of plan w exec path) (says reply.Unknown) (λ spot e. each spot) (refl, refl))

  plain_cached : (spot : Spot) (f : Task → Answer) → ((t : Task) → Plain (f t)) → Plain (on_cached plan spot f)
  plain_cached spot f each =
      on_option Plain f (cached_task plan spot.node) (says reply.NotReady) (λ t e. each t) (refl, refl)

  plain_looked : (spot : Spot) (t : Task) → Plain (looked_up w spot t)
  plain_looked spot t =
      let hit : LiteralMap → Answer = λ content. says (reply.Hit content) in
      tested Plain (not (is_queued (phase_at spot))) (says reply.NotReady)
      (option_map_or hit (cached_content w spot t) (says reply.Miss)) (λ e. (refl, refl))
      (λ e. on_option Plain hit (cached_content w spot t) (says reply.Miss) (λ content e. (refl, refl)) (refl, refl))

  plain_granted : (spot : Spot) (t : Task) (g : Grant)
      → Plain (does (grant_reply g) (catalog_becomes
      (after_grant w.catalog (cached_dataset t) (tag_at spot) (owner_at spot) g)))
  plain_granted spot t (grant.Granted expiry) = (refl, refl)
  plain_granted spot t (grant.HeldBy owner expiry) = (refl, refl)

  plain_reserved : (spot : Spot) (t : Task) → Plain (reserved w spot t)
  plain_reserved spot t =
      tested Plain (not t.serializable || is_not_yet_started (phase_at spot) || is_final (phase_at spot))
      (says reply.NotReady) (granted w spot t) (λ e. (refl, refl)) (λ e. plain_granted spot t (grant_at w spot t))

  plain_put : (spot : Spot) (t : Task) → Plain (put w spot t)
  plain_put spot t =
      let done : Answer = does reply.Stored
      (catalog_becomes (with_artifact_under w.catalog (cached_dataset t) (tag_at spot) (given_in (slot_of spot)))) in
      let present = is_some (tag_of w.catalog (cached_dataset t) (tag_at spot)) in
      tested Plain (not (is_succeeding (phase_at spot))) (says reply.NotReady)
      (first_fitting ((present, says reply.Present) ∷ []) done) (λ e. (refl, refl))
      (λ e. tested Plain present (says reply.Present) done (λ e. (refl, refl)) (λ e. (refl, refl)))

  plain_attempt : (name : AttemptName) (f : Spot → Answer) (a : Answer) → on_attempt plan w name f ≡ Some a
      → ((spot : Spot) → Plain (f spot)) → Plain a
  plain_attempt name f a h each =
      allowed Plain (are_ids name.exec name.path) (if_known f (attempt_spot plan w name)) a h
      (on_option Plain f (attempt_spot plan w name) (says reply.Unknown) (λ spot e. each spot) (refl, refl))

  plain_launched : (name : AttemptName) (inputs : LiteralMap) (spot : Spot) → Plain (launched plan w name inputs spot)
  plain_launched name inputs spot =
      let done : Answer = does reply.Launched (adds_launch name inputs) in
      let idle = not (runs spot name) in
      let other = not (has_inputs plan spot name inputs) in
      tested Plain (is_launched w name) (says reply.Already)
      (first_fitting ((idle, says reply.NotRunning) ∷ (other, says reply.BadInputs) ∷ []) done) (λ e. (refl, refl))
      (λ e. tested Plain idle (says reply.NotRunning) (first_fitting ((other, says reply.BadInputs) ∷ []) done)
      (λ e. (refl, refl)) (λ e. tested Plain other (says reply.BadInputs) done (λ e. (refl, refl))
      (λ e. (refl, refl))))

  plain_claimed : (name : AttemptName) (f : Claim → Answer) → ((c : Claim) → Plain (f c))
      → Plain (if_claimed w name f)
  plain_claimed name f each = on_option Plain f (claim_of w name) (says reply.NotClaimed) (λ c e. each c) (refl, refl)

  plain_expired : (name : AttemptName) (spot : Spot) → Plain (expired plan w name spot)
  plain_expired name spot =
      plain_claimed name (λ c. first_fitting ((is_settled w name, says reply.AlreadySettled)
      ∷ (not (is_overdue plan w spot c), says reply.NotDue) ∷ []) (timed_out name))
      (λ c. tested Plain (is_settled w name) (says reply.AlreadySettled)
      (first_fitting ((not (is_overdue plan w spot c), says reply.NotDue) ∷ []) (timed_out name)) (λ e. (refl, refl))
      (λ e. tested Plain (not (is_overdue plan w spot c)) (says reply.NotDue) (timed_out name) (λ e. (refl, refl))
      (λ e. (refl, refl))))

  plain_finished : (name : AttemptName) (o : Outcome) (spot : Spot) → Plain (finished plan w name o spot)
  plain_finished name o spot =
      let done : Answer = does reply.Recorded (adds_outcome name o) in
      plain_claimed name (λ c. first_fitting ((is_settled w name, says reply.AlreadySettled)
      ∷ (is_overdue plan w spot c, timed_out name) ∷ []) done)
      (λ c. tested Plain (is_settled w name) (says reply.AlreadySettled)
      (first_fitting ((is_overdue plan w spot c, timed_out name) ∷ []) done) (λ e. (refl, refl))
      (λ e. tested Plain (is_overdue plan w spot c) (timed_out name) done (λ e. (refl, refl)) (λ e. (refl, refl))))

  plain_moved : (moves : List Move) (at : ℕ × Execution) (bad : Option ℕ)
      → Plain (option_map_or (λ index. says (reply.IllegalMove index)) bad (with_moves plan w moves at))
  plain_moved moves at None = (refl, refl)
  plain_moved moves at (Some index) = (refl, refl)

  plain_written : (base : ℕ) (moves : List Move) (at : ℕ × Execution) → Plain (written plan w base moves at)
  plain_written base moves at =
      let bad = bad_move plan w (current_view w at) moves in
      tested Plain (not (eqb base (current_of at.1))) (says (reply.Stale (current_of at.1)))
      (option_map_or (λ index. says (reply.IllegalMove index)) bad (with_moves plan w moves at)) (λ e. (refl, refl))
      (λ e. plain_moved moves at bad)

  step-fit : (worker : ℕ) (o : Op) (a : Answer) → step plan w worker o ≡ Some a → IsFit o a.reply
  unfolding step
  step-fit worker (op.Begin closure) a h =
      fit-plain (op.Begin closure) a.reply
      (allowed Plain (eqb worker 0 && eqb (length w.entries) 0) (says reply.Begun) a h (refl, refl))
  step-fit worker (op.Import d tag content) a h =
      fit-plain (op.Import d tag content) a.reply
      (allowed Plain (is_opening w && not (is_some (tag_of w.catalog d tag)))
      (does reply.Imported (catalog_becomes (with_artifact_under w.catalog d tag content))) a h (refl, refl))
  step-fit worker (op.Submit exec inputs) a h =
      fit-plain (op.Submit exec inputs) a.reply
      (allowed Plain (is_id_text exec && are_workflow_inputs plan inputs &&
      (is_submitted w exec || ltb (length w.executions) max_executions)) (submitted plan w exec inputs) a h
      (tested Plain (is_submitted w exec) (says reply.Taken)
      (does reply.Submitted (adds_execution exec inputs (first_state plan inputs))) (λ e. (refl, refl))
      (λ e. (refl, refl))))
  step-fit worker (op.Tick now) a h =
      fit-plain (op.Tick now) a.reply
      (subst Plain (same_Some (does (reply.Now (next_moment w now)) (moment_becomes (next_moment w now))) a h)
      (refl, refl))
  step-fit worker op.Sweep a h =
      fit-plain op.Sweep a.reply
      (subst Plain (same_Some
      (does (reply.Swept (count_by (λ (r : Reservation). is_ended plan w r.owner) w.catalog.reservations))
      (lets_go (is_ended plan w))) a h) (refl, refl))
  step-fit worker (op.Read from back) a h =
      let P : Answer → Type 0 = λ x. IsFit (op.Read from back) x.reply in
      subst P (same_Some (option_map_or (viewed back) (read_execution w from) (says reply.Idle)) a h)
      (on_option P (viewed back) (read_execution w from) (says reply.Idle)
      (λ at e. (λ idle. refl, λ none. absurd (false≢true none))) (λ idle. refl, λ none. absurd (false≢true none)))
  step-fit worker (op.Lookup exec path) a h =
      fit-plain (op.Lookup exec path) a.reply
      (plain_node exec path (λ spot. on_cached plan spot (looked_up w spot)) a h
      (λ spot. plain_cached spot (looked_up w spot) (plain_looked spot)))
  step-fit worker (op.Reserve exec path) a h =
      fit-plain (op.Reserve exec path) a.reply
      (plain_node exec path (λ spot. on_cached plan spot (reserved w spot)) a h
      (λ spot. plain_cached spot (reserved w spot) (plain_reserved spot)))
  step-fit worker (op.Launch name inputs) a h =
      fit-plain (op.Launch name inputs) a.reply
      (plain_attempt name (launched plan w name inputs) a h (plain_launched name inputs))
  step-fit worker (op.Expire name) a h =
      fit-plain (op.Expire name) a.reply (plain_attempt name (expired plan w name) a h (plain_expired name))
  step-fit worker (op.Put exec path) a h =
      fit-plain (op.Put exec path) a.reply
      (plain_node exec path (λ spot. on_cached plan spot (put w spot)) a h
      (λ spot. plain_cached spot (put w spot) (plain_put spot)))
  step-fit worker (op.Write exec base moves) a h =
      fit-plain (op.Write exec base moves) a.reply
      (allowed Plain (is_id_text exec && list_all (λ (m : Move). is_in_plan plan m.at) moves)
      (if_known (written plan w base moves) (execution_named w exec)) a h
      (on_option Plain (written plan w base moves) (execution_named w exec) (says reply.Unknown)
      (λ at e. plain_written base moves at) (refl, refl)))
  step-fit worker op.Claim a h =
      let P : Answer → Type 0 = λ x. IsFit op.Claim x.reply in
      subst P (same_Some (option_map_or claimed (unclaimed w) (says reply.Nothing)) a h)
      (on_option P claimed (unclaimed w) (says reply.Nothing)
      (λ l e. (λ none. absurd (false≢true none), λ is. refl)) (λ none. absurd (false≢true none), λ is. refl))
  step-fit worker (op.Finish name o) a h =
      fit-plain (op.Finish name o) a.reply
      (allowed_behind Plain (is_outcome_at plan o (attempt_spot plan w name))
      (on_attempt plan w name (finished plan w name o)) a h
      (λ test e. plain_attempt name (finished plan w name o) a e (plain_finished name o)))

pub fits : (plan : RunPlan) (w new : World) (e : Entry) → Step plan w e new → IsFit e.op e.reply
fits plan w new e s = by (step plan w e.worker e.op) refl s
  where
    by : (o : Option Answer) → step plan w e.worker e.op ≡ o → IsStepBy w e new o → IsFit e.op e.reply
    by None h s = absurd s
    by (Some a) h (inl answered) =
        subst (IsFit e.op) (sym answered.reply) (step-fit plan w e.worker e.op a h)
    by (Some a) h (inr kept) = subst (IsFit e.op) (sym kept.reply) (fit-plain e.op reply.NoMemory (refl, refl))

-- each call of a worker whose entries are steps has such a reply
pub all-fit : (plan : RunPlan) (worker : ℕ) (w new : World) (cs : List Told)
    → Leads plan w (map (call_entry worker) cs) new
    → All (λ (c : Told). IsFit c.op c.reply) cs
all-fit plan worker w new [] leads = All-nil (λ (c : Told). IsFit c.op c.reply)
all-fit plan worker w new (c ∷ cs) leads =
    All-cons (λ (c : Told). IsFit c.op c.reply) c cs (fits plan w leads.0 (call_entry worker c) leads.1)
    (all-fit plan worker leads.0 new cs leads.2)
