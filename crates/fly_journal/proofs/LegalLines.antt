-- Each entry of a legal journal has a line.
use Rattle.std.proofs.Common.{◌≡◌, inl, inr, ℕ, Bool, true, false, ◌&&◌, List, [], ◌∷◌, All, Option, Some, None, refl, ap, ◌∙◌}
use Rattle.std.specs.List.{list_all}
use Rattle.std.proofs.lemmas.Option.{none-some}
use Rattle.std.proofs.lemmas.Bool.{and_parts, true≢false}
use Rattle.std.proofs.lemmas.List.Sums.{AllPass-from_list_all}
use Rattle.std.proofs.lemmas.List.Elements.{All-nil, All-cons}
use Rattle.fly_docs.specs.Templates.{is_id_text}
use Rattle.fly_policy.specs.declared.outcome.Outcome.TheVariants as outcome
use Rattle.fly_state.specs.declared.entries.Entry.{Entry}
use Rattle.fly_state.specs.declared.entries.Op.{Op}
use Rattle.fly_state.specs.declared.entries.Op.TheVariants as op
use Rattle.fly_state.specs.declared.entries.Reply.TheVariants as reply
use Rattle.fly_state.specs.declared.moves.Move.{Move}
use Rattle.fly_state.specs.Plans.{RunPlan}
use Rattle.fly_world.specs.World.{World, execution_named}
use Rattle.fly_world.specs.Journals.{Step, IsStepBy, Leads, is_begin}
use Rattle.fly_world.specs.Steps.{Answer, step, is_in_plan, if_known, written}
use Rattle.fly_world.proofs.AnswerLemmas.{allowed_where}
use Rattle.fly_journal.specs.Moves.{AreInPlan}
use Rattle.fly_journal.specs.Replies.{is_reply_of}
use Rattle.fly_journal.specs.Lines.{HasLine, moves_of, is_timeout}
use Rattle.fly_journal.proofs.ReplyLemmas.{step_fits}

-- memory may be wanting for each operation but a beginning
may_want : (o : Op) → is_begin o ≡ false → is_reply_of o reply.NoMemory ≡ true
may_want (op.Begin closure) h = absurd (true≢false h)
may_want (op.Import dataset tag content) h = refl
may_want (op.Submit exec inputs) h = refl
may_want (op.Tick now) h = refl
may_want op.Sweep h = refl
may_want (op.Read from back) h = refl
may_want (op.Lookup exec path) h = refl
may_want (op.Reserve exec path) h = refl
may_want (op.Launch name inputs) h = refl
may_want (op.Expire name) h = refl
may_want (op.Put exec path) h = refl
may_want (op.Write exec base moves) h = refl
may_want op.Claim h = refl
may_want (op.Finish name outcome) h = refl

module _ (plan : RunPlan) (w : World) where
  no_moves : AreInPlan plan []
  no_moves = All-nil (λ (m : Move). is_in_plan plan m.at ≡ true)

  -- the moves of an operation that may stand in a journal
  step_moves : (worker : ℕ) (o : Op) (a : Answer) → step plan w worker o ≡ Some a → AreInPlan plan (moves_of o)
  unfolding step
  step_moves worker (op.Begin closure) a h = no_moves
  step_moves worker (op.Import dataset tag content) a h = no_moves
  step_moves worker (op.Submit exec inputs) a h = no_moves
  step_moves worker (op.Tick now) a h = no_moves
  step_moves worker op.Sweep a h = no_moves
  step_moves worker (op.Read from back) a h = no_moves
  step_moves worker (op.Lookup exec path) a h = no_moves
  step_moves worker (op.Reserve exec path) a h = no_moves
  step_moves worker (op.Launch name inputs) a h = no_moves
  step_moves worker (op.Expire name) a h = no_moves
  step_moves worker (op.Put exec path) a h = no_moves
  step_moves worker (op.Write exec base moves) a h =
      let inside : Move → Bool = λ m. is_in_plan plan m.at in
      allowed_where (λ b. AreInPlan plan moves) (is_id_text exec && list_all inside moves)
      (if_known (written plan w base moves) (execution_named w exec)) a h
      (λ test. AllPass-from_list_all inside moves (and_parts (is_id_text exec) (list_all inside moves) test).1)
  step_moves worker op.Claim a h = no_moves
  step_moves worker (op.Finish name outcome) a h = no_moves

  -- no operation that may stand in a journal finishes an attempt by a timeout
  step_outcome : (worker : ℕ) (o : Op) (a : Answer) → step plan w worker o ≡ Some a → is_timeout o ≡ false
  unfolding step
  step_outcome worker (op.Begin closure) a h = refl
  step_outcome worker (op.Import dataset tag content) a h = refl
  step_outcome worker (op.Submit exec inputs) a h = refl
  step_outcome worker (op.Tick now) a h = refl
  step_outcome worker op.Sweep a h = refl
  step_outcome worker (op.Read from back) a h = refl
  step_outcome worker (op.Lookup exec path) a h = refl
  step_outcome worker (op.Reserve exec path) a h = refl
  step_outcome worker (op.Launch name inputs) a h = refl
  step_outcome worker (op.Expire name) a h = refl
  step_outcome worker (op.Put exec path) a h = refl
  step_outcome worker (op.Write exec base moves) a h = refl
  step_outcome worker op.Claim a h = refl
  step_outcome worker (op.Finish name (outcome.Succeeded outputs)) a h = refl
  step_outcome worker (op.Finish name (outcome.Recoverable code message)) a h = refl
  step_outcome worker (op.Finish name (outcome.Fatal code message)) a h = refl
  step_outcome worker (op.Finish name outcome.TimedOut) a h = absurd (none-some a h)

  -- an entry that leads from one world to another has a line
  pub step_has_line : (e : Entry) (new : World) → Step plan w e new → HasLine plan e
  step_has_line e new s = by (step plan w e.worker e.op) refl s
    where
      by : (o : Option Answer) → step plan w e.worker e.op ≡ o → IsStepBy w e new o → HasLine plan e
      by None h s = absurd s
      by (Some a) h (inl answered) = record {
        moves = step_moves e.worker e.op a h;
        reply = ap (is_reply_of e.op) answered.reply ∙ step_fits plan w e.worker e.op a h;
        outcome = step_outcome e.worker e.op a h;
      }
      by (Some a) h (inr refused) = record {
        moves = step_moves e.worker e.op a h;
        reply = ap (is_reply_of e.op) refused.reply ∙ may_want e.op refused.later;
        outcome = step_outcome e.worker e.op a h;
      }

-- so has each of the entries that lead from one to another
pub all_have_lines : (plan : RunPlan) (w : World) (entries : List Entry) (new : World) → Leads plan w entries new
    → All (HasLine plan) entries
all_have_lines plan w [] new leads = All-nil (HasLine plan)
all_have_lines plan w (e ∷ es) new leads =
    All-cons (HasLine plan) e es (step_has_line plan w e leads.0 leads.1) (all_have_lines plan leads.0 es new leads.2)
