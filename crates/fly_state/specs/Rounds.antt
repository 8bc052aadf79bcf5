-- A round: moves on distinct slots that are all legal at one version.
use Rattle.std.specs.Prelude.{◌≡◌, ℕ, ◌≤◌, ◌≢◌, List, [], ◌∷◌, length, fold, All, AllPairs, IsTrue, Option, Some, None, option_to_list}
use Rattle.std.specs.Prelude.{◌++◌}
use Rattle.fly_state.specs.declared.slots.ExecState.{ExecState}
use Rattle.fly_state.specs.declared.moves.Move.{Move}
use Rattle.fly_state.specs.declared.moves.Step.{Step}
use Rattle.fly_state.specs.declared.moves.Step.TheVariants as step
use Rattle.fly_state.specs.declared.entries.Entry.{Entry}
use Rattle.fly_state.specs.declared.view.View.{View}
use Rattle.fly_state.specs.Plans.{RunPlan}
use Rattle.fly_state.specs.Moves.{Effect, effect_of, is_legal, state_with}

-- the places of the entries that a step cites, in order
abbrev pub cited_places : Step → List ℕ
cited_places (step.Run miss lease) = option_to_list miss ++ option_to_list lease
cited_places (step.Hit place) = place ∷ []
cited_places (step.Stored place) = place ∷ []
cited_places _ = []

-- A move with the entries that it cites.
pub record CitedMove : Type 0 where
  pub move : Move
  pub entries : List Entry

-- one or more moves, on distinct slots, each with as many entries as it cites, all legal at the view
pub record IsRound (plan : RunPlan) (v : View) (moves : List CitedMove) : Type 0 where
  pub some : 1 ≤ length moves
  pub distinct : AllPairs (λ (a b : CitedMove). a.move.at ≢ b.move.at) moves
  pub cited : All (λ (m : CitedMove). length m.entries ≡ length (cited_places m.move.step)) moves
  pub legal : All (λ (m : CitedMove). IsTrue (is_legal plan v m.entries m.move)) moves

-- the state in which one move more has taken effect
abbrev pub with_move : RunPlan → View → ExecState → CitedMove → ExecState
with_move plan v s m = by_effect (effect_of plan v m.entries m.move)
  where
    by_effect : Option Effect → ExecState
    by_effect (Some e) = state_with s m.move.at e
    by_effect None = s

-- the state after a round: each move has the effect that it has at the view
abbrev pub state_after : RunPlan → View → List CitedMove → ExecState
state_after plan v moves = fold (with_move plan v) v.state moves
