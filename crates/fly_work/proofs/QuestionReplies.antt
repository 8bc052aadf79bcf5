-- What a call that asks a question is, and what its reply is not: a claim, or that every execution is over.
use Rattle.std.proofs.Common.{◌≡◌, ℕ, Bool, true, false, not, ◌||◌, [], ◌∷◌, Option, Some, None, is_some, refl, sym, subst, ⊎_elim}
use Rattle.std.specs.Option.{option_map_or}
use Rattle.std.proofs.lemmas.Bool.{false≢true}
use Rattle.fly_types.specs.declared.text.Text.{Text}
use Rattle.fly_types.specs.declared.literals.LiteralMap.{LiteralMap}
use Rattle.fly_docs.specs.declared.attempt_name.AttemptName.{AttemptName}
use Rattle.fly_docs.specs.declared.task.Task.{Task}
use Rattle.fly_catalog.specs.Cached.{cached_dataset}
use Rattle.fly_catalog.specs.declared.requests.Grant.{Grant}
use Rattle.fly_catalog.specs.declared.requests.Grant.TheVariants as grant
use Rattle.fly_catalog.specs.Requests.{tag_of}
use Rattle.fly_state.specs.declared.entries.Op.{Op}
use Rattle.fly_state.specs.declared.entries.Op.TheVariants as op
use Rattle.fly_state.specs.declared.entries.Reply.{Reply}
use Rattle.fly_state.specs.declared.entries.Reply.TheVariants as reply
use Rattle.fly_state.specs.Moves.{is_queued, is_succeeding}
use Rattle.fly_state.specs.Plans.{RunPlan, Path}
use Rattle.fly_state.specs.States.{is_final, is_not_yet_started}
use Rattle.fly_world.specs.World.{World, is_launched, is_settled, claim_of}
use Rattle.fly_world.specs.Called.{entry_of}
use Rattle.fly_world.specs.Changes.{catalog_becomes, adds_launch}
use Rattle.fly_world.specs.Journals.{Step, IsStepBy}
use Rattle.fly_world.specs.Spots.{Spot, are_ids, spot_of, attempt_spot, cached_task, phase_at, tag_at, slot_of, given_in, runs, has_inputs}
use Rattle.fly_world.specs.Steps.{Answer, says, does, step, first_fitting, if_known, on_node, on_cached, on_attempt, with_artifact_under, cached_content, looked_up, grant_reply, grant_at, granted, reserved, put, launched, is_overdue, timed_out, expired}
use Rattle.fly_world.proofs.AnswerLemmas.{tested, on_option, allowed}
use Rattle.fly_round.specs.Questions.{Question, look_up, reserve, launch, expire, Asks}
use Rattle.fly_round.specs.Questions as asked
use Rattle.fly_work.specs.Turns.{is_claimed_reply, is_idle_reply}

-- the operation is one of those that ask questions
abbrev pub is_question : Op → Bool
is_question (op.Lookup exec path) = true
is_question (op.Reserve exec path) = true
is_question (op.Launch name inputs) = true
is_question (op.Expire name) = true
is_question (op.Put exec path) = true
is_question _ = false

pub asks-question : (exec : Text) (q : Question) (o : Op) → Asks exec q o → is_question o ≡ true
asks-question exec (look_up path) (op.Lookup e p) h = refl
asks-question exec (reserve path) (op.Reserve e p) h = refl
asks-question exec (launch path item attempt inputs) (op.Launch name i) h = refl
asks-question exec (expire path item attempt) (op.Expire name) h = refl
asks-question exec (asked.put path) (op.Put e p) h = refl
asks-question exec _ _ h = absurd h

-- the reply claims nothing, and some execution goes on
pub record IsQuiet (r : Reply) : Type 0 where
  pub unclaimed : is_claimed_reply r ≡ false
  pub active : is_idle_reply r ≡ false

quiet : {r : Reply} → is_claimed_reply r ≡ false → is_idle_reply r ≡ false → IsQuiet r
quiet a b = record { unclaimed = a; active = b }

-- ---- by the answers of the store

module _ (plan : RunPlan) (w : World) where
  abbrev Quiets : Answer → Type 0
  Quiets a = IsQuiet a.reply

  quiet_node : (exec : Text) (path : Path) (f : Spot → Answer) (a : Answer) → on_node plan w exec path f ≡ Some a
      → ((spot : Spot) → Quiets (f spot)) → Quiets a
  quiet_node exec path f a h each =
      allowed Quiets (are_ids exec path) (if_known f (spot_of plan w exec path)) a h
      (on_option Quiets f (spot_of plan w exec path) (says reply.Unknown) (λ spot e. each spot) (quiet refl refl))

  quiet_cached : (spot : Spot) (f : Task → Answer) → ((t : Task) → Quiets (f t)) → Quiets (on_cached plan spot f)
  quiet_cached spot f each =
      on_option Quiets f (cached_task plan spot.node) (says reply.NotReady) (λ t e. each t) (quiet refl refl)

  quiet_looked : (spot : Spot) (t : Task) → Quiets (looked_up w spot t)
  quiet_looked spot t =
      let hit : LiteralMap → Answer = λ content. says (reply.Hit content) in
      tested Quiets (not (is_queued (phase_at spot))) (says reply.NotReady)
      (option_map_or hit (cached_content w spot t) (says reply.Miss)) (λ e. quiet refl refl)
      (λ e. on_option Quiets hit (cached_content w spot t) (says reply.Miss) (λ content e. quiet refl refl)
      (quiet refl refl))

  quiet_granted : (g : Grant) → IsQuiet (grant_reply g)
  quiet_granted (grant.Granted expiry) = quiet refl refl
  quiet_granted (grant.HeldBy owner expiry) = quiet refl refl

  quiet_reserved : (spot : Spot) (t : Task) → Quiets (reserved w spot t)
  quiet_reserved spot t =
      tested Quiets (not t.serializable || is_not_yet_started (phase_at spot) || is_final (phase_at spot))
      (says reply.NotReady) (granted w spot t) (λ e. quiet refl refl) (λ e. quiet_granted (grant_at w spot t))

  quiet_put : (spot : Spot) (t : Task) → Quiets (put w spot t)
  quiet_put spot t =
      let done : Answer = does reply.Stored
      (catalog_becomes (with_artifact_under w.catalog (cached_dataset t) (tag_at spot) (given_in (slot_of spot)))) in
      let present = is_some (tag_of w.catalog (cached_dataset t) (tag_at spot)) in
      tested Quiets (not (is_succeeding (phase_at spot))) (says reply.NotReady)
      (first_fitting ((present, says reply.Present) ∷ []) done) (λ e. quiet refl refl)
      (λ e. tested Quiets present (says reply.Present) done (λ e. quiet refl refl) (λ e. quiet refl refl))

  quiet_attempt : (name : AttemptName) (f : Spot → Answer) (a : Answer) → on_attempt plan w name f ≡ Some a
      → ((spot : Spot) → Quiets (f spot)) → Quiets a
  quiet_attempt name f a h each =
      allowed Quiets (are_ids name.exec name.path) (if_known f (attempt_spot plan w name)) a h
      (on_option Quiets f (attempt_spot plan w name) (says reply.Unknown) (λ spot e. each spot) (quiet refl refl))

  quiet_launched : (name : AttemptName) (inputs : LiteralMap) (spot : Spot) → Quiets (launched plan w name inputs spot)
  quiet_launched name inputs spot =
      let done : Answer = does reply.Launched (adds_launch name inputs) in
      let idle = not (runs spot name) in
      let other = not (has_inputs plan spot name inputs) in
      tested Quiets (is_launched w name) (says reply.Already)
      (first_fitting ((idle, says reply.NotRunning) ∷ (other, says reply.BadInputs) ∷ []) done) (λ e. quiet refl refl)
      (λ e. tested Quiets idle (says reply.NotRunning) (first_fitting ((other, says reply.BadInputs) ∷ []) done)
      (λ e. quiet refl refl)
      (λ e. tested Quiets other (says reply.BadInputs) done (λ e. quiet refl refl) (λ e. quiet refl refl)))

  quiet_expired : (name : AttemptName) (spot : Spot) → Quiets (expired plan w name spot)
  quiet_expired name spot =
      on_option Quiets
      (λ c. first_fitting ((is_settled w name, says reply.AlreadySettled)
      ∷ (not (is_overdue plan w spot c), says reply.NotDue) ∷ []) (timed_out name))
      (claim_of w name) (says reply.NotClaimed)
      (λ c e. tested Quiets (is_settled w name) (says reply.AlreadySettled)
      (first_fitting ((not (is_overdue plan w spot c), says reply.NotDue) ∷ []) (timed_out name))
      (λ e. quiet refl refl)
      (λ e. tested Quiets (not (is_overdue plan w spot c)) (says reply.NotDue) (timed_out name)
      (λ e. quiet refl refl) (λ e. quiet refl refl)))
      (quiet refl refl)

  quiet_answer : (worker : ℕ) (o : Op) (a : Answer) → is_question o ≡ true → step plan w worker o ≡ Some a → Quiets a
  unfolding step
  quiet_answer worker (op.Lookup exec path) a is h =
      quiet_node exec path (λ spot. on_cached plan spot (looked_up w spot)) a h
      (λ spot. quiet_cached spot (looked_up w spot) (quiet_looked spot))
  quiet_answer worker (op.Reserve exec path) a is h =
      quiet_node exec path (λ spot. on_cached plan spot (reserved w spot)) a h
      (λ spot. quiet_cached spot (reserved w spot) (quiet_reserved spot))
  quiet_answer worker (op.Put exec path) a is h =
      quiet_node exec path (λ spot. on_cached plan spot (put w spot)) a h
      (λ spot. quiet_cached spot (put w spot) (quiet_put spot))
  quiet_answer worker (op.Launch name inputs) a is h =
      quiet_attempt name (launched plan w name inputs) a h (quiet_launched name inputs)
  quiet_answer worker (op.Expire name) a is h = quiet_attempt name (expired plan w name) a h (quiet_expired name)
  quiet_answer worker _ a is h = absurd (false≢true is)

-- ---- by a step

-- the reply to a question
pub quiet-reply : (plan : RunPlan) (w new : World) (worker : ℕ) (o : Op) (r : Reply) → is_question o ≡ true
    → Step plan w (entry_of worker o r) new → IsQuiet r
quiet-reply plan w new worker o r is stepped = by (step plan w worker o) refl stepped
  where
    by : (found : Option Answer) → step plan w worker o ≡ found → IsStepBy w (entry_of worker o r) new found
        → IsQuiet r
    by None e h = absurd h
    by (Some a) e h =
        ⊎_elim (λ answered. subst IsQuiet (sym answered.reply) (quiet_answer plan w worker o a is e))
        (λ refused. subst IsQuiet (sym refused.reply) (quiet refl refl)) h
