-- The Write of a round's moves on the version that is current is accepted.
use Rattle.std.proofs.Common.{◌≡◌, ℕ, ◌+◌, ◌<◌, true, not, ◌&&◌, ◌||◌, cond, ltb, List, [], ◌∷◌, filter_map, length, take, get_or, Some, None, is_some, sym, ◌∙◌, ap, subst, arith}
use Rattle.std.specs.List.{slice_get, list_any, list_all}
use Rattle.std.specs.Option.{option_map_or}
use Rattle.std.proofs.lemmas.Bool.{eq-eqb}
use Rattle.fly_policy.specs.declared.outcome.Outcome.{Outcome}
use Rattle.fly_docs.specs.Plans.{PlanNode}
use Rattle.fly_docs.specs.Templates.{is_id_text}
use Rattle.fly_state.specs.declared.entries.Op.TheVariants as op
use Rattle.fly_state.specs.declared.entries.Reply.{Reply}
use Rattle.fly_state.specs.declared.entries.Reply.TheVariants as reply
use Rattle.fly_state.specs.declared.moves.Move.{Move}
use Rattle.fly_state.specs.declared.view.View.{View}
use Rattle.fly_state.specs.Moves.{outcome_in, is_legal}
use Rattle.fly_state.specs.Plans.{RunPlan}
use Rattle.fly_world.specs.World.{World, Execution, current_of, current_view, execution_named}
use Rattle.fly_world.specs.Called.{entry_of}
use Rattle.fly_world.specs.Journals.{Step}
use Rattle.fly_world.specs.Steps.{Answer, says, step, if_known, is_in_plan, is_legal_move, same_slot, bad_move, with_moves, written}
use Rattle.fly_world.proofs.AnswerLemmas.{allowed}
use Rattle.fly_world.proofs.MoveLists.{bad_nowhere}
use Rattle.fly_round.specs.Steps.{move_at}
use Rattle.fly_work.proofs.AttemptSpots.{answered}
use Rattle.fly_work.proofs.LegalRounds.{plain-cites, IsGood, Rises, good-at, apart-at, legal-stays}

-- where a round stands on the current version: the view is of that version, and has known less than the world knows
pub record IsCurrent (plan : RunPlan) (w : World) (v : View) (at : ℕ × Execution) : Type 0 where
  pub named : execution_named w v.name ≡ Some at
  pub version : v.version ≡ current_of at.1
  pub view : current_view w at ≡ record v { launches = (current_view w at).launches }
  pub known : (p : PlanNode) (a : ℕ) (o : Outcome) → outcome_in v p None a ≡ Some o
      → is_some (outcome_in (current_view w at) p None a) ≡ true

module _ (plan : RunPlan) (w : World) (v : View) (at : ℕ × Execution) (current : IsCurrent plan w v at)
    (moves : List Move)
    (rises : Rises plan v 0 moves) (some : 0 < length moves) where
  abbrev now : View
  now = current_view w at

  legal-move : (m : Move) → IsGood plan v m → is_legal_move plan w now m ≡ true
  legal-move m good =
      let stays = legal-stays plan v now.launches
      (λ p a o is. subst (λ u. is_some (outcome_in u p None a) ≡ true) current.view (current.known p a o is))
      m.at.node m.step good.plain (subst (λ x. is_legal plan v [] x ≡ true) good.own good.legal) in
      ap (λ ps. list_all (λ place. ltb place (length w.entries)) ps && is_legal plan now
      (filter_map (slice_get w.entries) ps) m)
      (plain-cites m.step good.plain)
      ∙ subst (λ x. is_legal plan now [] x ≡ true) (sym good.own)
      (subst (λ u. is_legal plan u [] (move_at m.at.node m.step) ≡ true) (sym current.view) stays)

  none-bad : bad_move plan w now moves ≡ None
  none-bad =
      bad_nowhere plan w now moves (get_or moves 0 (move-there moves some)) some (λ k d lt.
      ap (λ b. not b || list_any (λ (e : Move). same_slot e.at (get_or moves k d).at) (take k moves))
      (legal-move (get_or moves k d) (good-at plan v 0 moves rises k d lt))
      ∙ apart-at plan v 0 moves rises k d lt)
    where
      move-there : (ms : List Move) → 0 < length ms → Move
      move-there [] lt = absurd (omega arith)
      move-there (m ∷ ms) lt = m

  abbrev Accepts : Answer → Type 0
  Accepts a = a.reply ≡ reply.Written (current_of at.1 + 1)

  write-at : Accepts (written plan w v.version moves at)
  write-at =
      let rest = option_map_or (λ index. says (reply.IllegalMove index)) (bad_move plan w now moves)
      (with_moves plan w moves at) in
      ap (λ b. (cond (not b) (says (reply.Stale (current_of at.1))) rest).reply)
      (eq-eqb v.version (current_of at.1) current.version)
      ∙ ap (λ o. (option_map_or (λ index. says (reply.IllegalMove index)) o
      (with_moves plan w moves at)).reply) none-bad

  write-step : (worker : ℕ) (a : Answer) → step plan w worker (op.Write v.name v.version moves) ≡ Some a → Accepts a
  unfolding step
  write-step worker a is =
      allowed Accepts (is_id_text v.name && list_all (λ (m : Move). is_in_plan plan m.at) moves)
      (if_known (written plan w v.version moves) (execution_named w v.name)) a is
      (subst (λ o. Accepts (if_known (written plan w v.version moves) o)) (sym current.named) write-at)

  -- the moves are written, where there is memory
  pub write-accepted : (new : World) (worker : ℕ) (r : Reply)
      → Step plan w (entry_of worker (op.Write v.name v.version moves) r) new
      → (r ≡ reply.NoMemory → ⊥) → r ≡ reply.Written (current_of at.1 + 1)
  write-accepted new worker r s found =
      let done = answered plan w new (entry_of worker (op.Write v.name v.version moves) r) s found in
      done.reply_is ∙ write-step worker done.answer done.is
