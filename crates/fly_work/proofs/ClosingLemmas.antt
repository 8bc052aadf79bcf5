-- The calls that close a round, each by its reply, and what both do.
use Rattle.std.proofs.Common.{◌≡◌, ◌≢◌, ◌≤◌, ◌⊎◌, inl, inr, ℕ, Bool, true, false, cond, List, [], ◌∷◌, ◌++◌, length, Option, Some, None, Ok, Err, Result, refl, sym, ◌∙◌, ap, subst, arith}
use Rattle.std.specs.Prelude.{IfOk, OnOk, OnErr, IsErr}
use Rattle.std.proofs.lemmas.Bool.{false≢true}
use Rattle.std.proofs.lemmas.Option.{none-some}
use Rattle.fly_ports.specs.Clock.{ClockState}
use Rattle.fly_types.specs.declared.memory.NoMemory.{NoMemory}
use Rattle.fly_docs.specs.declared.attempt_name.AttemptName.{AttemptName}
use Rattle.fly_docs.specs.declared.workflow.Workflow.{Workflow}
use Rattle.fly_state.specs.declared.entries.Op.{Op}
use Rattle.fly_state.specs.declared.entries.Op.TheVariants as op
use Rattle.fly_state.specs.declared.entries.Reply.{Reply}
use Rattle.fly_state.specs.declared.entries.Reply.TheVariants as reply
use Rattle.fly_state.specs.declared.moves.Move.{Move}
use Rattle.fly_state.specs.declared.view.View.{View}
use Rattle.fly_state.specs.PlanTables.{IsOuterPlan}
use Rattle.fly_state.specs.Plans.{RunPlan}
use Rattle.fly_world.specs.declared.called.Called.{Called}
use Rattle.fly_world.specs.declared.work.Work.{Work}
use Rattle.fly_world.specs.Called.{IsCalled, entry_of, view_read, work_claimed, HasAll, HasNone}
use Rattle.fly_world.specs.World.{World}
use Rattle.fly_world.specs.Journals.{IsHistory}
use Rattle.fly_world.specs.Kept.{Kept, IsLegal}
use Rattle.fly_round.specs.declared.told.Told.{Told}
use Rattle.fly_work.specs.Acting.{AddsCall, IsPart}
use Rattle.fly_work.specs.Closing.{Writes, Claims, GivesWork}
use Rattle.fly_work.specs.Parts.{IsRoundOf, IsClosed, Closes}
use Rattle.fly_work.specs.Stages.{Turn, Stage, asking, claiming, running, over, cut, IsDue, AfterClaim, Passes}
use Rattle.fly_work.specs.Turns.{is_claim, claims_of, is_idle_reply, is_claimed_reply, outcomes_by}
use Rattle.fly_work.proofs.ActingLemmas.{told_of, part-call, part-both, part-weaker, passes-cut, passes-fine, given-work, claims-cons, idle-cons}
use Rattle.fly_work.proofs.OutcomeLemmas.{claimed-work}
use Rattle.fly_work.proofs.PassLemmas.{write-due, after-claim}
use Rattle.fly_work.proofs.ReplyLemmas.{IsPlain, IsClaimReply, step-replies, write-plain, claim-answers}

-- ---- the Write

module _ (worker : ℕ) {alone : Type 0} {old new : Kept} {exec : List ℕ} {base : ℕ} {moves : List Move} {c : Called}
    (adds : AddsCall alone old new worker (op.Write exec base moves) c) where
  wrote-plain : IsPlain c.reply
  wrote-plain =
      step-replies IsPlain old.plan adds.before new.world (entry_of worker (op.Write exec base moves) c.reply)
      adds.called.step (write-plain old.plan adds.before worker exec base moves) (refl, refl)

module _ {alone : Type 0} {old new : Kept} {exec : List ℕ} {base : ℕ} {moves : List Move} {c : Called} (t : Turn)
    (v : View) (told : List Told) (clock : ClockState)
    (adds : AddsCall alone old new t.worker (op.Write exec base moves) c)
    (round : IsRoundOf old.plan v told exec base moves) (some : moves ≢ []) where
  wrote : (next : Stage) (result : Result (Unit {0}) NoMemory)
      → Passes old.plan old.closure new.world.entries (asking v told) (told_of (op.Write exec base moves) c) next
      → IfOk result (λ _. next ≡ claiming) → Writes alone t (asking v told) old new clock result
  wrote next result passes written = record {
    call = told_of (op.Write exec base moves) c;
    at = next;
    part = part-call clock adds (write-due old.plan t v told exec base moves round some) passes refl;
    unclaimed = (wrote-plain t.worker adds).0;
    outcomes = refl;
    active = (wrote-plain t.worker adds).1;
    written = written;
  }

  -- by whether it found its memory
  pub writes-by : (result : Result (Unit {0}) NoMemory) → OnOk result (c.reply ≢ reply.NoMemory)
      → OnErr result (c.reply ≡ reply.NoMemory) → Writes alone t (asking v told) old new clock result
  writes-by (Ok u) other none =
      wrote claiming (Ok u)
      (passes-fine old.plan old.closure new.world.entries (asking v told) (told_of (op.Write exec base moves) c)
      claiming other refl) refl
  writes-by (Err e) other none =
      wrote cut (Err e)
      (passes-cut old.plan old.closure new.world.entries (asking v told) (told_of (op.Write exec base moves) c) none)
      tt

-- ---- the claim

module _ (worker : ℕ) {alone : Type 0} {old new : Kept} {c : Called}
    (adds : AddsCall alone old new worker op.Claim c) where
  claim-replies : IsClaimReply c.reply
  claim-replies =
      step-replies IsClaimReply old.plan adds.before new.world (entry_of worker op.Claim c.reply)
      adds.called.step (claim-answers old.plan adds.before worker) (inr (inr refl))

claim-quiet : (r : Reply) → IsClaimReply r → is_idle_reply r ≡ false
claim-quiet r (inl e) = ap is_idle_reply e
claim-quiet r (inr (inl e)) = ap is_idle_reply e.1
claim-quiet r (inr (inr e)) = ap is_idle_reply e

-- an attempt that was claimed is among the claims, and nothing else is
claims-one : (c : Told) (b : Bool) → is_claim c ≡ b → claims_of (c ∷ []) ≡ cond b (c ∷ []) []
claims-one c b e = ap (λ x. cond x (c ∷ []) []) e

-- the work that a call gives is that of the attempt that was claimed
given-claimed : {plan : RunPlan} {w new : World} {worker : ℕ} {o : Op} {c : Called} → IsCalled plan w new worker o c
    → (work : Work) → c.work ≡ Some work → work_claimed plan new c.reply ≡ Some work
given-claimed {plan = plan} {new = new} {c = c} called work given = by called.told
  where
    by : HasAll c (view_read new c.reply) (work_claimed plan new c.reply)
        ⊎ HasNone c (view_read new c.reply) (work_claimed plan new c.reply)
        → work_claimed plan new c.reply ≡ Some work
    by (inl all) = sym all.work ∙ given
    by (inr none) = absurd (none-some work (sym none.work ∙ given))

module _ {alone : Type 0} {old new : Kept} {c : Called} (t : Turn) (from : Stage) (clock : ClockState)
    (adds : AddsCall alone old new t.worker op.Claim c) (due : IsDue old.plan t from op.Claim) (legal : IsLegal new)
    (f : Workflow) (outer : IsOuterPlan old.plan f) where
  claims : (next : Stage) (result : Result (Option Work) NoMemory)
      → Passes old.plan old.closure new.world.entries from (told_of op.Claim c) next
      → IsClosed next (told_of op.Claim c ∷ []) result → Claims alone t from old new clock result
  claims next result passes closed = record {
    call = told_of op.Claim c;
    at = next;
    part = part-call clock adds due passes refl;
    outcomes = refl;
    active = claim-quiet c.reply (claim-replies t.worker adds);
    closed = closed;
  }

  -- the stage behind a claim that was answered so
  claim-passes : (r : Reply) (next : Stage) → c.reply ≡ r → r ≢ reply.NoMemory
      → AfterClaim old.plan old.closure new.world.entries (told_of op.Claim c) r next
      → Passes old.plan old.closure new.world.entries from (told_of op.Claim c) next
  claim-passes r next e found after =
      let J = new.world.entries in
      passes-fine old.plan old.closure J from (told_of op.Claim c) next (λ none. found (sym e ∙ none))
      (after-claim old.plan old.closure J t c next from due
      (subst (λ x. AfterClaim old.plan old.closure J (told_of op.Claim c) x next) (sym e) after))

  runs : (name : AttemptName) → c.reply ≡ reply.Claimed name → (work : Work)
      → work_claimed old.plan new.world c.reply ≡ Some work
      → Passes old.plan old.closure new.world.entries from (told_of op.Claim c) (running work)
  runs name e work h =
      claim-passes (reply.Claimed name) (running work) e (λ other. absurd (cc)) (work, given-work adds legal h, refl)

  -- the attempt has work, be it without a copy
  work-there : (name : AttemptName) → c.reply ≡ reply.Claimed name
      → (work : Work) × (work_claimed old.plan new.world c.reply ≡ Some work)
  work-there name e =
      let J = new.world.entries in
      claimed-work old.plan f outer old.closure J adds.before new.world (entry_of t.worker op.Claim c.reply) name
      (subst (λ p. IsHistory p old.closure J new.world) adds.plan
      (subst (λ k. IsHistory new.plan k J new.world) adds.closure legal)) adds.called.step e

  -- by the work that it gave
  pub claims-by : (result : Result (Option Work) NoMemory) → GivesWork c result
      → Claims alone t from old new clock result
  claims-by (Ok None) e =
      claims over (Ok None) (claim-passes reply.Nothing over e (λ other. absurd (cc)) refl)
      (refl, claims-one (told_of op.Claim c) false (ap is_claimed_reply e))
  claims-by (Ok (Some work)) given = by (claim-replies t.worker adds)
    where
      h : work_claimed old.plan new.world c.reply ≡ Some work
      h = given-claimed adds.called work given

      by : IsClaimReply c.reply → Claims alone t from old new clock (Ok (Some work))
      by (inl e) = absurd (none-some work (sym (ap (work_claimed old.plan new.world) e) ∙ h))
      by (inr (inl e)) =
          claims (running work) (Ok (Some work)) (runs e.0 e.1 work h)
          (refl, [], told_of op.Claim c, refl, claims-one (told_of op.Claim c) true (ap is_claimed_reply e.1))
      by (inr (inr e)) = absurd (none-some work (sym (ap (work_claimed old.plan new.world) e) ∙ h))
  claims-by (Err none) h = by (claim-replies t.worker adds)
    where
      by : IsClaimReply c.reply → Claims alone t from old new clock (Err none)
      by (inl e) = absurd (h.0 e)
      by (inr (inl e)) =
          let there = work-there e.0 e.1 in
          claims (running there.0) (Err none) (runs e.0 e.1 there.0 there.1) tt
      by (inr (inr e)) =
          claims cut (Err none)
          (passes-cut old.plan old.closure new.world.entries from (told_of op.Claim c) e) tt

-- ---- both

-- a turn of a worker, and a clock, of which nothing else matters
abbrev pub any_turn : ℕ → Turn
any_turn worker = record { worker = worker; number = 0; executions = 0; lag = 0 }

abbrev pub any_clock : ClockState
any_clock = record { moments = None }

one-claim : (c : Told) → length (claims_of (c ∷ [])) ≤ 1
one-claim c = by (is_claim c)
  where
    by : (b : Bool) → length (cond b (c ∷ []) []) ≤ 1
    by true = omega arith
    by false = omega arith

-- the claim alone, where there are no moves
pub closes-claim : {alone : Type 0} {t : Turn} {from : Stage} {old new : Kept} {clock : ClockState}
    {result : Result (Option Work) NoMemory}
    → Claims alone t from old new clock result → Closes alone t from old new clock result
closes-claim claims = record {
  calls = claims.call ∷ [];
  at = claims.at;
  part = claims.part;
  few = omega arith;
  claimed = one-claim claims.call;
  outcomes = claims.outcomes;
  active = idle-cons claims.call [] claims.active;
  closed = claims.closed;
}

-- the Write alone, where it found no memory
pub closes-cut : {alone : Type 0} {t : Turn} {from : Stage} {old new : Kept} {clock : ClockState}
    {written : Result (Unit {0}) NoMemory} (result : Result (Option Work) NoMemory) → IsErr result
    → Writes alone t from old new clock written → Closes alone t from old new clock result
closes-cut (Ok x) failed writes = absurd (false≢true failed)
closes-cut (Err e) failed writes = record {
  calls = writes.call ∷ [];
  at = writes.at;
  part = writes.part;
  few = omega arith;
  claimed = one-claim writes.call;
  outcomes = writes.outcomes;
  active = idle-cons writes.call [] writes.active;
  closed = tt;
}

-- a call before the claim, which claims nothing
closed-behind : (b c : Told) (at : Stage) (result : Result (Option Work) NoMemory) → is_claim b ≡ false
    → IsClosed at (c ∷ []) result → IsClosed at (b ∷ c ∷ []) result
closed-behind b c at (Ok None) none h = (h.0, claims-cons b (c ∷ []) none ∙ h.1)
closed-behind b c at (Ok (Some work)) none h =
    (h.0, b ∷ h.1, h.2, ap (λ cs. b ∷ cs) h.3, claims-cons b (c ∷ []) none ∙ h.4)
closed-behind b c at (Err e) none h = tt

-- the Write, and the claim behind it
pub closes-both : {alone less : Type 0} {t : Turn} {from : Stage} {old mid new : Kept} {clock : ClockState}
    {u : Unit {0}} {result : Result (Option Work) NoMemory} → (alone → less)
    → Writes alone t from old mid clock (Ok u) → Claims less t claiming mid new clock result
    → Closes alone t from old new clock result
closes-both {alone = alone} {t = t} {from = from} {old = old} {mid = m} {clock = k} {result = r} weaker writes claims =
    let b = writes.call in
    let c = claims.call in
    record {
      calls = b ∷ c ∷ [];
      at = claims.at;
      part = part-both (subst (λ s. IsPart alone t from s old m k k (b ∷ [])) writes.written writes.part)
          (part-weaker weaker claims.part);
      few = omega arith;
      claimed = subst (λ cs. length cs ≤ 1) (sym (claims-cons b (c ∷ []) writes.unclaimed)) (one-claim c);
      outcomes = ap (λ os. outcomes_by b.op ++ os) claims.outcomes ∙ writes.outcomes;
      active = idle-cons b (c ∷ []) writes.active ∙ idle-cons c [] claims.active;
      closed = closed-behind b c claims.at r writes.unclaimed claims.closed;
    }
