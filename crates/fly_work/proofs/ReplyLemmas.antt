-- Which operations at the end of a turn may stand in a journal, and what they are answered.
use Rattle.std.proofs.Common.{◌≡◌, ◌⊎◌, inl, inr, ℕ, ℤ, false, not, ◌&&◌, eqb, List, [], ◌∷◌, Option, Some, None, refl, sym, subst}
use Rattle.std.specs.List.{list_all}
use Rattle.std.specs.Option.{option_map_or}
use Rattle.std.proofs.lemmas.Option.{same_Some}
use Rattle.fly_types.specs.declared.text.Text.{Text}
use Rattle.fly_docs.specs.declared.attempt_name.AttemptName.{AttemptName}
use Rattle.fly_docs.specs.Templates.{is_id_text}
use Rattle.fly_policy.specs.declared.outcome.Outcome.{Outcome}
use Rattle.fly_state.specs.declared.entries.Entry.{Entry}
use Rattle.fly_state.specs.declared.entries.Op.TheVariants as op
use Rattle.fly_state.specs.declared.entries.Reply.{Reply}
use Rattle.fly_state.specs.declared.entries.Reply.TheVariants as reply
use Rattle.fly_state.specs.declared.moves.Move.{Move}
use Rattle.fly_state.specs.Plans.{RunPlan}
use Rattle.fly_world.specs.World.{World, Execution, Launch, Claim, is_settled, unclaimed, claim_of, execution_named, current_of, current_view}
use Rattle.fly_world.specs.Changes.{moment_becomes, adds_outcome}
use Rattle.fly_world.specs.Journals.{IsStepBy, Step}
use Rattle.fly_world.specs.Spots.{Spot, are_ids, attempt_spot}
use Rattle.fly_world.specs.Steps.{Answer, says, does, step, first_fitting, if_known, on_attempt, next_moment, is_overdue, timed_out, claimed, is_outcome_at, finished, is_in_plan, bad_move, with_moves, written}
use Rattle.fly_world.proofs.AnswerLemmas.{tested, on_option, allowed, allowed_behind}
use Rattle.fly_work.specs.Parts.{MayStand}
use Rattle.fly_work.specs.Turns.{is_claimed_reply, is_idle_reply}

-- ---- operations that may stand

pub tick-stands : (plan : RunPlan) (worker : ℕ) (now : ℤ) → MayStand plan worker (op.Tick now)
unfolding step
tick-stands plan worker now w = refl

pub claim-stands : (plan : RunPlan) (worker : ℕ) → MayStand plan worker op.Claim
unfolding step
claim-stands plan worker w = refl

-- ---- replies

-- the reply of a step is that of an answer, or want of memory
pub step-replies : (P : Reply → Type 0) (plan : RunPlan) (w new : World) (e : Entry) → Step plan w e new
    → ((a : Answer) → step plan w e.worker e.op ≡ Some a → P a.reply) → P reply.NoMemory → P e.reply
step-replies P plan w new e s answered refused = by (step plan w e.worker e.op) refl s
  where
    by : (o : Option Answer) → step plan w e.worker e.op ≡ o → IsStepBy w e new o → P e.reply
    by None h s = absurd s
    by (Some a) h (inl is) = subst P (sym is.reply) (answered a h)
    by (Some a) h (inr is) = subst P (sym is.reply) refused

-- it claims nothing, and is not that all executions are over
abbrev pub IsPlain : Reply → Type 0
IsPlain r = (is_claimed_reply r ≡ false) × (is_idle_reply r ≡ false)

abbrev Plainly : Answer → Type 0
Plainly a = IsPlain a.reply

-- what a claim is answered: nothing, an attempt, or want of memory
abbrev pub IsClaimReply : Reply → Type 0
IsClaimReply r = (r ≡ reply.Nothing) ⊎ (((name : AttemptName) × (r ≡ reply.Claimed name)) ⊎ (r ≡ reply.NoMemory))

module _ (plan : RunPlan) (w : World) (worker : ℕ) where
  pub tick-plain : (now : ℤ) (a : Answer) → step plan w worker (op.Tick now) ≡ Some a → IsPlain a.reply
  unfolding step
  tick-plain now a h =
      subst Plainly (same_Some (does (reply.Now (next_moment w now)) (moment_becomes (next_moment w now))) a h)
      (refl, refl)

  moved-plain : (moves : List Move) (at : ℕ × Execution) (bad : Option ℕ)
      → Plainly (option_map_or (λ index. says (reply.IllegalMove index)) bad (with_moves plan w moves at))
  moved-plain moves at None = (refl, refl)
  moved-plain moves at (Some index) = (refl, refl)

  written-plain : (base : ℕ) (moves : List Move) (at : ℕ × Execution) → Plainly (written plan w base moves at)
  written-plain base moves at =
      let bad = bad_move plan w (current_view w at) moves in
      tested Plainly (not (eqb base (current_of at.1))) (says (reply.Stale (current_of at.1)))
      (option_map_or (λ index. says (reply.IllegalMove index)) bad (with_moves plan w moves at)) (λ e. (refl, refl))
      (λ e. moved-plain moves at bad)

  pub write-plain : (exec : Text) (base : ℕ) (moves : List Move) (a : Answer)
      → step plan w worker (op.Write exec base moves) ≡ Some a → IsPlain a.reply
  unfolding step
  write-plain exec base moves a h =
      allowed Plainly (is_id_text exec && list_all (λ (m : Move). is_in_plan plan m.at) moves)
      (if_known (written plan w base moves) (execution_named w exec)) a h
      (on_option Plainly (written plan w base moves) (execution_named w exec) (says reply.Unknown)
      (λ at e. written-plain base moves at) (refl, refl))

  finished-plain : (name : AttemptName) (o : Outcome) (spot : Spot) → Plainly (finished plan w name o spot)
  finished-plain name o spot =
      let done : Answer = does reply.Recorded (adds_outcome name o) in
      on_option Plainly (λ (c : Claim). first_fitting ((is_settled w name, says reply.AlreadySettled)
      ∷ (is_overdue plan w spot c, timed_out name) ∷ []) done) (claim_of w name) (says reply.NotClaimed)
      (λ c e. tested Plainly (is_settled w name) (says reply.AlreadySettled)
      (first_fitting ((is_overdue plan w spot c, timed_out name) ∷ []) done) (λ e. (refl, refl))
      (λ e. tested Plainly (is_overdue plan w spot c) (timed_out name) done (λ e. (refl, refl)) (λ e. (refl, refl))))
      (refl, refl)

  pub finish-plain : (name : AttemptName) (o : Outcome) (a : Answer)
      → step plan w worker (op.Finish name o) ≡ Some a → IsPlain a.reply
  unfolding step
  finish-plain name o a h =
      allowed_behind Plainly (is_outcome_at plan o (attempt_spot plan w name))
      (on_attempt plan w name (finished plan w name o)) a h
      (λ test e. allowed Plainly (are_ids name.exec name.path)
      (if_known (finished plan w name o) (attempt_spot plan w name)) a e
      (on_option Plainly (finished plan w name o) (attempt_spot plan w name) (says reply.Unknown)
      (λ spot there. finished-plain name o spot) (refl, refl)))

  pub claim-answers : (a : Answer) → step plan w worker op.Claim ≡ Some a → IsClaimReply a.reply
  unfolding step
  claim-answers a h =
      let Told : Answer → Type 0 = λ x. IsClaimReply x.reply in
      subst Told (same_Some (option_map_or claimed (unclaimed w) (says reply.Nothing)) a h)
      (on_option Told claimed (unclaimed w) (says reply.Nothing) (λ (l : Launch) e. inr (inl (l.name, refl)))
      (inl refl))
