-- One call that asks a question of a round.
use Rattle.std.proofs.Common.{◌≡◌, ◌≢◌, ℕ, true, false, List, [], ◌∷◌, ◌++◌, Option, Some, Result, Ok, Err, refl, sym, ◌∙◌, ap, subst}
use Rattle.std.proofs.lemmas.Bool.{false≢true}
use Rattle.fly_ports.specs.Clock.{ClockState}
use Rattle.fly_types.specs.declared.memory.NoMemory.{NoMemory}
use Rattle.fly_types.specs.declared.text.Text.{Text}
use Rattle.fly_state.specs.declared.entries.Entry.{Entry}
use Rattle.fly_state.specs.declared.entries.Op.{Op}
use Rattle.fly_state.specs.declared.entries.Op.TheVariants as op
use Rattle.fly_state.specs.declared.entries.Reply.TheVariants as reply
use Rattle.fly_state.specs.declared.view.View.{View}
use Rattle.fly_state.specs.Plans.{RunPlan}
use Rattle.fly_world.specs.declared.called.Called.{Called}
use Rattle.fly_world.specs.Journals.{is_begin}
use Rattle.fly_world.specs.Kept.{Kept}
use Rattle.fly_round.specs.declared.told.Told.{Told}
use Rattle.fly_round.specs.Questions.{Question, Asks, AsksWhere, next_question}
use Rattle.fly_round.specs.Rounds.{RoundState, with_answer}
use Rattle.fly_round.proofs.ComeLemmas.{asks-some}
use Rattle.fly_work.specs.Acting.{AddsCall, IsPart}
use Rattle.fly_work.specs.Asking.{AsksOne, IsTold}
use Rattle.fly_work.specs.Stages.{Turn, Stage, asking, cut, IsDue, IsDueInRound, AfterAsked, Passes}
use Rattle.fly_work.specs.Turns.{outcomes_by, ticks_by}
use Rattle.fly_work.proofs.ActingLemmas.{told_of, passes-cut, passes-fine, claims-cons, idle-cons, outcomes-cons, part-call}
use Rattle.fly_work.proofs.QuestionReplies.{is_question, asks-question, quiet-reply}

-- ---- its operation

no-ticks : (o : Op) → is_question o ≡ true → ticks_by o ≡ []
no-ticks (op.Tick now) is = absurd (false≢true is)
no-ticks _ is = refl

no-outcomes : (o : Op) → is_question o ≡ true → outcomes_by o ≡ []
no-outcomes (op.Finish name outcome) is = absurd (false≢true is)
no-outcomes _ is = refl

no-begin : (o : Op) → is_question o ≡ true → is_begin o ≡ false
no-begin (op.Begin closure) is = absurd (false≢true is)
no-begin _ is = refl

-- what asks a question begins no journal
pub asks-later : (exec : Text) (found : Option Question) (o : Op) → AsksWhere exec found (Some o) → is_begin o ≡ false
asks-later exec found o asks = let at = asks-some exec found o asks in no-begin o (asks-question exec at.0 o at.2)

question-due : (plan : RunPlan) (t : Turn) (v : View) (told : List Told) (q : Question) (o : Op)
    → next_question plan v told ≡ Some q → Asks v.name q o → IsDue plan t (asking v told) o
question-due plan t v told q o next asks = subst (λ found. IsDueInRound plan v told found o) (sym next) asks

module _ (plan : RunPlan) (closure : List ℕ) (journal : List Entry) (v : View) (told : List Told) where
  after-question : (c : Told) (o : Op) → is_question o ≡ true
      → AfterAsked plan closure journal v told c o (asking v (told ++ c ∷ []))
  after-question c (op.Write exec base moves) is = absurd (false≢true is)
  after-question c op.Claim is = absurd (false≢true is)
  after-question c _ is = refl

-- ---- the call

module _ (alone : Type 0) (worker : ℕ) (round : RoundState) (old new : Kept) (o : Op) (c : Called)
    (own : old.plan ≡ round.plan)
    (asks : AsksWhere round.view.name (next_question round.plan round.view round.told) (Some o))
    (adds : AddsCall alone old new worker o c) where
  abbrev v : View
  v = round.view

  abbrev told : List Told
  told = round.told

  abbrev call : Told
  call = told_of o c

  asked : (q : Question) × (next_question round.plan v told ≡ Some q) × Asks v.name q o
  asked = asks-some v.name (next_question round.plan v told) o asks

  is : is_question o ≡ true
  is = asks-question v.name asked.0 o asked.2

  part-question : (at : Stage) → Passes old.plan old.closure new.world.entries (asking v told) call at
      → (t : Turn) (clock : ClockState) → t.worker ≡ worker
      → IsPart alone t (asking v told) at old new clock clock (call ∷ [])
  part-question at passes t clock same =
      let next : next_question old.plan v told ≡ Some asked.0 = ap (λ plan. next_question plan v told) own ∙ asked.1 in
      part-call clock (subst (λ k. AddsCall alone old new k o c) (sym same) adds)
      (question-due old.plan t v told asked.0 o next asked.2) passes (no-ticks o is)

  -- a question was asked, and the turn has come to this stage
  asks-one : (new_round : RoundState) (result : Result (Unit {0}) NoMemory) (at : Stage)
      → Passes old.plan old.closure new.world.entries (asking v told) call at → IsTold round new_round call at result
      → AsksOne alone worker round new_round old new result
  asks-one new_round result at passes is_told =
      let quiet = quiet-reply old.plan adds.before new.world worker o c.reply is adds.called.step in record {
        call = call;
        at = at;
        part = part-question at passes;
        claims = claims-cons call [] quiet.unclaimed;
        outcomes = outcomes-cons call [] (no-outcomes o is);
        active = idle-cons call [] quiet.active;
        told = is_told;
      }

  -- no memory was found
  pub asks-cut : c.reply ≡ reply.NoMemory → (new_round : RoundState) (e : NoMemory)
      → AsksOne alone worker round new_round old new (Err e)
  asks-cut none new_round e =
      asks-one new_round (Err e) cut
      (passes-cut old.plan old.closure new.world.entries (asking v told) call none) tt

  -- the round was told the reply
  pub asks-told : c.reply ≢ reply.NoMemory
      → AsksOne alone worker round (with_answer round o c.place c.reply) old new (Ok tt)
  asks-told found =
      let at : Stage = asking v (told ++ call ∷ []) in
      asks-one (with_answer round o c.place c.reply) (Ok tt) at
      (passes-fine old.plan old.closure new.world.entries (asking v told) call at found
      (after-question old.plan old.closure new.world.entries v told call o is)) (refl, refl)
