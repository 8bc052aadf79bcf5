-- The calls behind a child, each by its reply, and what both do.
use Rattle.std.proofs.Common.{◌≡◌, ◌≢◌, inl, inr, ℕ, ℤ, [], ◌∷◌, Ok, Err, Result, refl, sym, ◌∙◌, arith}
use Rattle.std.specs.Prelude.{OnOk, OnErr, IsErr}
use Rattle.std.proofs.lemmas.Bool.{false≢true}
use Rattle.fly_ports.specs.Clock.{ClockState, Gives}
use Rattle.fly_types.specs.declared.memory.NoMemory.{NoMemory}
use Rattle.fly_docs.specs.declared.attempt_name.AttemptName.{AttemptName}
use Rattle.fly_policy.specs.declared.outcome.Outcome.{Outcome}
use Rattle.fly_state.specs.declared.entries.Op.TheVariants as op
use Rattle.fly_state.specs.declared.entries.Reply.TheVariants as reply
use Rattle.fly_world.specs.declared.called.Called.{Called}
use Rattle.fly_world.specs.declared.work.Work.{Work}
use Rattle.fly_world.specs.Called.{entry_of}
use Rattle.fly_world.specs.Kept.{Kept}
use Rattle.fly_work.specs.Acting.{AddsCall}
use Rattle.fly_work.specs.Parts.{IsSettled, Settles}
use Rattle.fly_work.specs.Stages.{Turn, Stage, running, finishing, over, cut, Passes}
use Rattle.fly_work.proofs.ActingLemmas.{told_of, part-call, part-tick, part-both, part-weaker, passes-cut, passes-fine, claims-cons, idle-cons}
use Rattle.fly_work.proofs.ReplyLemmas.{IsPlain, step-replies, tick-plain, finish-plain}

-- ---- the tick

module _ (worker : ℕ) {alone : Type 0} {old new : Kept} {now : ℤ} {c : Called}
    (ticked : AddsCall alone old new worker (op.Tick now) c) where
  ticked-plain : IsPlain c.reply
  ticked-plain =
      step-replies IsPlain old.plan ticked.before new.world (entry_of worker (op.Tick now) c.reply)
      ticked.called.step (tick-plain old.plan ticked.before worker now) (refl, refl)

-- it found no memory
pub settles-tick : {alone : Type 0} {old new : Kept} {now : ℤ} {c : Called} (t : Turn) (work : Work)
    (clock new_clock : ClockState) (outcome : Outcome) (result : Result (Unit {0}) NoMemory)
    → AddsCall alone old new t.worker (op.Tick now) c → Gives clock new_clock now → c.reply ≡ reply.NoMemory
    → IsErr result → Settles alone t work outcome old new clock new_clock result
settles-tick t work clock new_clock outcome (Ok u) ticked gives none failed = absurd (false≢true failed)
settles-tick {old = old} {new = new} {now = m} {c = c} t work clock after outcome (Err e) ticked gives none failed =
    let tick = told_of (op.Tick m) c in
    let plain = ticked-plain t.worker ticked in
    record {
      calls = tick ∷ [];
      at = cut;
      part = part-tick ticked gives tt (passes-cut old.plan old.closure new.world.entries (running work) tick none);
      few = omega arith;
      claims = claims-cons tick [] plain.0;
      active = idle-cons tick [] plain.1;
      settled = inl refl;
    }

-- ---- the end of the attempt

module _ (worker : ℕ) {alone : Type 0} {old new : Kept} {name : AttemptName} {outcome : Outcome} {c : Called}
    (finished : AddsCall alone old new worker (op.Finish name outcome) c) where
  finished-plain : IsPlain c.reply
  finished-plain =
      step-replies IsPlain old.plan finished.before new.world (entry_of worker (op.Finish name outcome) c.reply)
      finished.called.step (finish-plain old.plan finished.before worker name outcome) (refl, refl)

module _ {alone less : Type 0} {old mid new : Kept} {now : ℤ} {name : AttemptName} {outcome : Outcome} {c d : Called}
    (t : Turn) (work : Work) (clock new_clock : ClockState) (named : work.name ≡ name) (weaker : alone → less)
    (ticked : AddsCall alone old mid t.worker (op.Tick now) c) (gives : Gives clock new_clock now)
    (found : c.reply ≢ reply.NoMemory) (finished : AddsCall less mid new t.worker (op.Finish name outcome) d) where
  ended : (at : Stage) (result : Result (Unit {0}) NoMemory)
      → Passes mid.plan mid.closure new.world.entries (finishing work) (told_of (op.Finish name outcome) d) at
      → IsSettled outcome at (told_of (op.Tick now) c ∷ told_of (op.Finish name outcome) d ∷ []) result
      → Settles alone t work outcome old new clock new_clock result
  ended at result passes settled =
      let tick = told_of (op.Tick now) c in
      let finish = told_of (op.Finish name outcome) d in
      let first = ticked-plain t.worker ticked in
      let last = finished-plain t.worker finished in
      record {
        calls = tick ∷ finish ∷ [];
        at = at;
        part = part-both
            (part-tick ticked gives tt
            (passes-fine old.plan old.closure mid.world.entries (running work) tick (finishing work) found refl))
            (part-weaker weaker (part-call new_clock finished (sym named) passes refl));
        few = omega arith;
        claims = claims-cons tick (finish ∷ []) first.0 ∙ claims-cons finish [] last.0;
        active = idle-cons tick (finish ∷ []) first.1 ∙ idle-cons finish [] last.1;
        settled = settled;
      }

  -- both calls, where the tick found its memory
  pub settles-both : (result : Result (Unit {0}) NoMemory) → OnOk result (d.reply ≢ reply.NoMemory)
      → OnErr result (d.reply ≡ reply.NoMemory) → Settles alone t work outcome old new clock new_clock result
  settles-both (Ok u) other none =
      ended over (Ok u)
      (passes-fine mid.plan mid.closure new.world.entries (finishing work) (told_of (op.Finish name outcome) d)
      over other refl)
      (refl, refl)
  settles-both (Err e) other none =
      ended cut (Err e)
      (passes-cut mid.plan mid.closure new.world.entries (finishing work) (told_of (op.Finish name outcome) d) none)
      (inr refl)
