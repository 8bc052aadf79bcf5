-- An accepted Write is one round on the version that was then current.
use Rattle.std.proofs.Common.{◌≡◌, inl, inr, ℕ, ◌+◌, Bool, true, false, not, ◌&&◌, List, map, Option, Some, None, refl, sym, ap, ◌∙◌, eqb}
use Rattle.std.specs.List.{list_all}
use Rattle.std.specs.Option.{option_map_or}
use Rattle.std.proofs.lemmas.Bool.{not-false, eqb-true, true≢false}
use Rattle.fly_types.specs.declared.text.Text.{Text}
use Rattle.fly_docs.specs.Templates.{is_id_text}
use Rattle.fly_state.specs.declared.moves.Move.{Move}
use Rattle.fly_state.specs.declared.entries.Entry.{Entry}
use Rattle.fly_state.specs.declared.entries.Op.TheVariants as op
use Rattle.fly_state.specs.declared.entries.Reply.{Reply}
use Rattle.fly_state.specs.declared.entries.Reply.TheVariants as reply
use Rattle.fly_state.specs.Plans.{RunPlan}
use Rattle.fly_state.specs.Rounds.{IsRound, state_after}
use Rattle.fly_world.specs.World.{World, Execution, execution_named, current_of, current_view}
use Rattle.fly_world.specs.Changes.{Change, adds_version, with_change, with_entry}
use Rattle.fly_world.specs.Steps.{Answer, says, step, if_known, is_in_plan, cited_move, bad_move, with_moves, written, on_write}
use Rattle.fly_world.specs.Journals.{IsStepBy, Step}
use Rattle.fly_world.specs.Laws.{IsRoundOn}
use Rattle.fly_world.proofs.AnswerLemmas.{tested, on_option, allowed}
use Rattle.fly_world.proofs.RoundLemmas.{good-round}

abbrev is_written : Reply → Bool
is_written (reply.Written version) = true
is_written _ = false

abbrev version_in : Reply → ℕ
version_in (reply.Written version) = version
version_in _ = 0

-- The change of an accepted Write.
record WrittenBy (plan : RunPlan) (w : World) (exec : Text) (base version : ℕ) (moves : List Move)
    (c : Change) : Type 0 where
  execution : ℕ × Execution
  named : execution_named w exec ≡ Some execution
  base_is : base ≡ current_of execution.1
  version_is : version ≡ base + 1
  round : IsRound plan (current_view w execution) (map (cited_move w) moves)
  change_is : c ≡ adds_version execution (state_after plan (current_view w execution) (map (cited_move w) moves))

module _ (plan : RunPlan) (w : World) (exec : Text) (base version : ℕ) (moves : List Move) where
  abbrev Accepts : Answer → Type 0
  Accepts a = reply.Written version ≡ a.reply → WrittenBy plan w exec base version moves a.change

  refused : (r : Reply) → is_written r ≡ false → Accepts (says r)
  refused r other same = absurd (true≢false (ap is_written same ∙ other))

  accepted : (at : ℕ × Execution) → execution_named w exec ≡ Some at → base ≡ current_of at.1
      → bad_move plan w (current_view w at) moves ≡ None → Accepts (with_moves plan w moves at)
  accepted at named base_is good same = record {
    execution = at;
    named = named;
    base_is = base_is;
    version_is = ap version_in same ∙ ap (λ n. n + 1) (sym base_is);
    round = good-round plan w (current_view w at) moves good;
    change_is = refl;
  }

  moved : (at : ℕ × Execution) (bad : Option ℕ) → execution_named w exec ≡ Some at → base ≡ current_of at.1
      → bad_move plan w (current_view w at) moves ≡ bad
      → Accepts (option_map_or (λ index. says (reply.IllegalMove index)) bad (with_moves plan w moves at))
  moved at None named base_is same = accepted at named base_is same
  moved at (Some index) named base_is same = refused (reply.IllegalMove index) refl

  on_execution : (at : ℕ × Execution) → execution_named w exec ≡ Some at → Accepts (written plan w base moves at)
  on_execution at named =
      let bad = bad_move plan w (current_view w at) moves in
      tested Accepts (not (eqb base (current_of at.1))) (says (reply.Stale (current_of at.1)))
      (option_map_or (λ index. says (reply.IllegalMove index)) bad (with_moves plan w moves at))
      (λ stale. refused (reply.Stale (current_of at.1)) refl)
      (λ current. moved at bad named
      (eqb-true base (current_of at.1) (not-false (eqb base (current_of at.1)) current)) refl)

  answered : (a : Answer) → on_write plan w exec base moves ≡ Some a → Accepts a
  answered a h =
      allowed Accepts (is_id_text exec && list_all (λ (m : Move). is_in_plan plan m.at) moves)
      (if_known (written plan w base moves) (execution_named w exec)) a h
      (on_option Accepts (written plan w base moves) (execution_named w exec) (says reply.Unknown) on_execution
      (refused reply.Unknown refl))

  by_answer : (new : World) (e : Entry) (o : Option Answer) → e.reply ≡ reply.Written version
      → on_write plan w exec base moves ≡ o
      → IsStepBy w e new o → IsRoundOn plan w new e exec base version moves
  by_answer new e None is_reply h s = absurd s
  by_answer new e (Some a) is_reply h (inl done) =
      let made = answered a h (sym is_reply ∙ done.reply) in
      record {
        execution = made.execution;
        named = made.named;
        base_is = made.base_is;
        version_is = made.version_is;
        round = made.round;
        after = done.world ∙ ap (λ c. with_entry (with_change w c) e) made.change_is;
      }
  by_answer new e (Some a) is_reply h (inr kept) = absurd (true≢false (ap is_written (sym is_reply ∙ kept.reply)))

  pub write-round : (new : World) (worker : ℕ)
      → Step plan w (record { worker = worker; op = op.Write exec base moves; reply = reply.Written version }) new
      → IsRoundOn plan w new
      (record { worker = worker; op = op.Write exec base moves; reply = reply.Written version }) exec base version moves
  unfolding step
  write-round new worker s =
      by_answer new (record { worker = worker; op = op.Write exec base moves; reply = reply.Written version })
      (on_write plan w exec base moves)
      refl refl s
