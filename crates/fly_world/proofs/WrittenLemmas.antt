-- What a Write answers, by what is known of it.
use Rattle.std.proofs.Common.{◌≡◌, ℕ, ◌+◌, true, not, cond, ◌&&◌, List, Some, option_map, sym, subst, ap, ◌∙◌}
use Rattle.std.specs.Prelude.{slice_get}
use Rattle.std.specs.List.{list_all}
use Rattle.std.specs.Option.{option_map_or}
use Rattle.std.proofs.lemmas.Bool.{ne_eqb, eq-eqb}
use Rattle.std.proofs.lemmas.Option.{same_Some}
use Rattle.fly_types.specs.declared.text.Text.{Text}
use Rattle.fly_docs.specs.Templates.{is_id_text}
use Rattle.fly_state.specs.declared.moves.Move.{Move}
use Rattle.fly_state.specs.declared.entries.Reply.TheVariants as reply
use Rattle.fly_state.specs.declared.slots.ExecState.{ExecState}
use Rattle.fly_state.specs.declared.view.View.{View}
use Rattle.fly_state.specs.Moves.{where_true}
use Rattle.fly_state.specs.Plans.{RunPlan}
use Rattle.fly_world.specs.World.{World, Execution, current_of, execution_named, view_of, current_view}
use Rattle.fly_world.specs.Steps.{Answer, says, does, if_known, is_in_plan, bad_move, with_moves, written, on_write}
use Rattle.fly_world.specs.Store.{StoreLists, execution_numbered}
use Rattle.fly_world.specs.Changes.{adds_version}
use Rattle.fly_world.specs.declared.writes.Moved.{Moved}
use Rattle.fly_world.specs.declared.writes.Moved.TheVariants as moved
use Rattle.fly_world.specs.Writes.{IsMoved}

-- the version of the execution of a number
pub view-numbered : (w : World) (number : ℕ) (x : Execution) (version : ℕ) (v : View)
    → slice_get w.executions number ≡ Some x
    → Some v ≡ option_map (λ at. view_of w at version) (execution_numbered w number)
    → v ≡ view_of w (number, x) version
view-numbered w number x version v there is =
    same_Some v (view_of w (number, x) version)
    (is ∙ ap (λ o. option_map (λ at. view_of w at version) (option_map (λ (y : Execution). (number, y)) o)) there)

-- the answer to moves on the current version
abbrev pub answer_to_moves : RunPlan → World → List Move → ℕ × Execution → Answer
answer_to_moves plan w moves at =
    option_map_or (λ index. says (reply.IllegalMove index)) (bad_move plan w (current_view w at) moves)
    (with_moves plan w moves at)

module _ (plan : RunPlan) (w : World) (exec : Text) (base : ℕ) (moves : List Move) (at : ℕ × Execution)
    (named : execution_named w exec ≡ Some at)
    (id : is_id_text exec ≡ true) (in_plan : list_all (λ (m : Move). is_in_plan plan m.at) moves ≡ true) where
  on-written : on_write plan w exec base moves ≡ Some (written plan w base moves at)
  on-written =
      ap (λ b. where_true (b && list_all (λ (m : Move). is_in_plan plan m.at) moves)
      (Some (if_known (written plan w base moves) (execution_named w exec)))) id
      ∙ ap (λ b. where_true b (Some (if_known (written plan w base moves) (execution_named w exec)))) in_plan
      ∙ ap (λ o. Some (if_known (written plan w base moves) o)) named

  pub on-stale : (base ≡ current_of at.1 → ⊥)
      → on_write plan w exec base moves ≡ Some (says (reply.Stale (current_of at.1)))
  on-stale other =
      on-written
      ∙ ap (λ b. Some (cond (not b) (says (reply.Stale (current_of at.1))) (answer_to_moves plan w moves at)))
      (ne_eqb base (current_of at.1) other)

  pub on-current : base ≡ current_of at.1 → on_write plan w exec base moves ≡ Some (answer_to_moves plan w moves at)
  on-current same =
      on-written
      ∙ ap (λ b. Some (cond (not b) (says (reply.Stale (current_of at.1))) (answer_to_moves plan w moves at)))
      (eq-eqb base (current_of at.1) same)

-- what comes of the moves is what they are answered with
module _ (s : StoreLists) (at : ℕ × Execution) (v : View) (seen : v ≡ current_view s.world at)
    (moves round : List Move) (are : round ≡ moves) where
  moved-at : (m : Moved) → IsMoved s v round m → IsMoved s (current_view s.world at) moves m
  moved-at m h = subst (λ ms. IsMoved s (current_view s.world at) ms m) are (subst (λ x. IsMoved s x round m) seen h)

  pub moved-bad : (index : ℕ) → IsMoved s v round (moved.Bad index)
      → answer_to_moves s.plan s.world moves at ≡ says (reply.IllegalMove index)
  moved-bad index h =
      ap (λ o. option_map_or (λ i. says (reply.IllegalMove i)) o (with_moves s.plan s.world moves at))
      (moved-at (moved.Bad index) h)

  pub moved-on : (state : ExecState) → IsMoved s v round (moved.To state)
      → answer_to_moves s.plan s.world moves at ≡ does (reply.Written (current_of at.1 + 1)) (adds_version at state)
  moved-on state h =
      let good = moved-at (moved.To state) h in
      ap (λ o. option_map_or (λ i. says (reply.IllegalMove i)) o (with_moves s.plan s.world moves at)) good.0
      ∙ ap (λ x. does (reply.Written (current_of at.1 + 1)) (adds_version at x)) (sym good.1)
