-- An attempt times out only where it was claimed and its time is over.
use Rattle.std.proofs.Common.{◌≡◌, inl, inr, ℕ, zero, suc, ◌<◌, ◌≤ℤ◌, ◌-ℤ◌, ℤ, Bool, true, false, not, [], ◌∷◌, Option, Some, None, refl, sym, subst, ap, ◌∙◌, eqb, arith}
use Rattle.std.specs.Prelude.{pos, int_lt}
use Rattle.std.specs.Int.Signed.{lt_z_no}
use lib.Dec.{T}
use Rattle.std.proofs.lemmas.Bool.{and_parts, not-false, true≢false, false≢true}
use Rattle.fly_docs.specs.declared.attempt_name.AttemptName.{AttemptName}
use Rattle.fly_policy.specs.declared.outcome.Outcome.{Outcome}
use Rattle.fly_policy.specs.Timeouts.{IsExpired}
use Rattle.fly_state.specs.declared.entries.Entry.{Entry}
use Rattle.fly_state.specs.declared.entries.Op.TheVariants as op
use Rattle.fly_state.specs.declared.entries.Reply.{Reply}
use Rattle.fly_state.specs.declared.entries.Reply.TheVariants as reply
use Rattle.fly_state.specs.Plans.{RunPlan}
use Rattle.fly_world.specs.World.{World, Claim, claim_of, is_settled}
use Rattle.fly_world.specs.Spots.{Spot, attempt_spot, are_ids, timeout_of, is_due}
use Rattle.fly_world.specs.Steps.{Answer, says, does, step, first_fitting, if_known, on_attempt, if_claimed, is_overdue, timed_out, expired, on_expire, is_outcome_at, finished, on_finish}
use Rattle.fly_world.specs.Changes.{adds_outcome}
use Rattle.fly_world.specs.Journals.{IsStepBy, Step}
use Rattle.fly_world.specs.Laws.{IsTimeout}
use Rattle.fly_world.proofs.AnswerLemmas.{tested, on_option, allowed, allowed_behind}
use Rattle.fly_world.proofs.StepLemmas.{attempt_found}

pub not_less : (a b : ℤ) → int_lt a b ≡ false → b ≤ℤ a
not_less a b h = lt_z_no (subst (λ t. T (not t)) (sym h) tt)

some_time : (timeout : ℕ) → not (eqb timeout 0) ≡ true → 0 < timeout
some_time zero h = absurd (false≢true h)
some_time (suc n) h = omega arith

pub not-true : (b : Bool) → not b ≡ true → b ≡ false
not-true true h = absurd (false≢true h)
not-true false h = refl

-- the test of the time tells of it
pub due-expired : (timeout : ℕ) (moment : ℤ) (c : Claim) → is_due timeout moment c ≡ true
    → IsExpired c.moment timeout moment
due-expired timeout moment c h =
    let parts = and_parts (not (eqb timeout 0)) (not (int_lt (moment -ℤ c.moment) (pos timeout))) h in (
      some_time timeout parts.0,
      not_less (moment -ℤ c.moment) (pos timeout)
          (not-true (int_lt (moment -ℤ c.moment) (pos timeout)) parts.1),
    )

abbrev is_expired_reply : Reply → Bool
is_expired_reply reply.Expired = true
is_expired_reply _ = false

module _ (plan : RunPlan) (w : World) (name : AttemptName) where
  abbrev Accepts : Answer → Type 0
  Accepts a = reply.Expired ≡ a.reply → IsTimeout plan w name

  other : (r : Reply) → is_expired_reply r ≡ false → Accepts (says r)
  other r is same = absurd (true≢false (ap is_expired_reply same ∙ is))

  over : (spot : Spot) (c : Claim) → attempt_spot plan w name ≡ Some spot → claim_of w name ≡ Some c
      → is_overdue plan w spot c ≡ true
      → Accepts (timed_out name)
  over spot c there claimed due same = record {
    claim = c;
    claimed = claimed;
    node = spot.node;
    is_node = attempt_found plan w name spot there;
    due = due-expired (timeout_of plan spot.node) w.moment c due;
  }

  attempted : (f : Spot → Answer) (a : Answer) → on_attempt plan w name f ≡ Some a
      → ((spot : Spot) → attempt_spot plan w name ≡ Some spot → Accepts (f spot)) → Accepts a
  attempted f a h fine =
      allowed Accepts (are_ids name.exec name.path) (if_known f (attempt_spot plan w name)) a h
      (on_option Accepts f (attempt_spot plan w name) (says reply.Unknown) fine (other reply.Unknown refl))

  if_claimed-over : (f : Claim → Answer) → ((c : Claim) → claim_of w name ≡ Some c → Accepts (f c))
      → Accepts (if_claimed w name f)
  if_claimed-over f fine = on_option Accepts f (claim_of w name) (says reply.NotClaimed) fine
      (other reply.NotClaimed refl)

  expired-over : (spot : Spot) → attempt_spot plan w name ≡ Some spot → Accepts (expired plan w name spot)
  expired-over spot there =
      if_claimed-over (λ c. first_fitting ((is_settled w name, says reply.AlreadySettled)
      ∷ (not (is_overdue plan w spot c), says reply.NotDue) ∷ []) (timed_out name))
      (λ c claimed. tested Accepts (is_settled w name) (says reply.AlreadySettled)
      (first_fitting ((not (is_overdue plan w spot c), says reply.NotDue) ∷ []) (timed_out name))
      (λ e. other reply.AlreadySettled refl)
      (λ e. tested Accepts (not (is_overdue plan w spot c)) (says reply.NotDue) (timed_out name)
      (λ d. other reply.NotDue refl)
      (λ d. over spot c there claimed (not-false (is_overdue plan w spot c) d))))

  recorded-not : (o : Outcome) → Accepts (does reply.Recorded (adds_outcome name o))
  recorded-not o same = absurd (true≢false (ap is_expired_reply same))

  finished-over : (o : Outcome) (spot : Spot) → attempt_spot plan w name ≡ Some spot
      → Accepts (finished plan w name o spot)
  finished-over o spot there =
      let done : Answer = does reply.Recorded (adds_outcome name o) in
      if_claimed-over (λ c. first_fitting
      ((is_settled w name, says reply.AlreadySettled) ∷ (is_overdue plan w spot c, timed_out name) ∷ []) done)
      (λ c claimed. tested Accepts (is_settled w name) (says reply.AlreadySettled)
      (first_fitting ((is_overdue plan w spot c, timed_out name) ∷ []) done) (λ e. other reply.AlreadySettled refl)
      (λ e. tested Accepts (is_overdue plan w spot c) (timed_out name) done (λ d. over spot c there claimed d)
      (λ d. recorded-not o)))

  expire-over : (a : Answer) → on_expire plan w name ≡ Some a → Accepts a
  expire-over a h = attempted (expired plan w name) a h expired-over

  finish-over : (o : Outcome) (a : Answer) → on_finish plan w name o ≡ Some a → Accepts a
  finish-over o a h =
      allowed_behind Accepts (is_outcome_at plan o (attempt_spot plan w name))
      (on_attempt plan w name (finished plan w name o)) a h
      (λ test e. attempted (finished plan w name o) a e (finished-over o))

  by_answer : (new : World) (e : Entry) (o : Option Answer) → e.reply ≡ reply.Expired
      → ((a : Answer) → o ≡ Some a → Accepts a)
      → IsStepBy w e new o → IsTimeout plan w name
  by_answer new e None is_reply accepts s = absurd s
  by_answer new e (Some a) is_reply accepts (inl done) = accepts a refl (sym is_reply ∙ done.reply)
  by_answer new e (Some a) is_reply accepts (inr kept) = absurd
      (true≢false (ap is_expired_reply (sym is_reply ∙ kept.reply)))

  pub expire-due : (new : World) (worker : ℕ)
      → Step plan w (record { worker = worker; op = op.Expire name; reply = reply.Expired }) new
      → IsTimeout plan w name
  unfolding step
  expire-due new worker s =
      by_answer new (record { worker = worker; op = op.Expire name; reply = reply.Expired })
      (on_expire plan w name) refl expire-over s

  pub finish-due : (new : World) (worker : ℕ) (o : Outcome)
      → Step plan w (record { worker = worker; op = op.Finish name o; reply = reply.Expired }) new
      → IsTimeout plan w name
  unfolding step
  finish-due new worker o s =
      by_answer new (record { worker = worker; op = op.Finish name o; reply = reply.Expired })
      (on_finish plan w name o) refl (finish-over o) s
