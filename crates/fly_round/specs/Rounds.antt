-- A round while it asks: what it goes by, what was told so far, the question that waits, and how far it has come.
use Rattle.std.specs.Prelude.{◌≡◌, ℕ, ◌+◌, ◌<◌, ◌≤◌, Bool, true, false, if◌then◌else◌, List, [], ◌∷◌, ◌++◌, length, take, flat_map, Option, Some, None, option_to_list}
use Rattle.std.specs.List.{enumerate_from}
use Rattle.fly_docs.specs.Plans.{PlanNode}
use Rattle.fly_state.specs.declared.entries.Op.{Op}
use Rattle.fly_state.specs.declared.entries.Op.TheVariants as op
use Rattle.fly_state.specs.declared.entries.Reply.{Reply}
use Rattle.fly_state.specs.declared.entries.Reply.TheVariants as reply
use Rattle.fly_state.specs.declared.view.View.{View}
use Rattle.fly_state.specs.OfPlan.{IsViewOfPlan}
use Rattle.fly_state.specs.Plans.{RunPlan, node_numbered}
use Rattle.fly_state.specs.States.{is_broken}
use Rattle.fly_round.specs.declared.told.Told.{Told}
use Rattle.fly_round.specs.declared.progress.Progress.{Progress}
use Rattle.fly_round.specs.Attempts.{HasAttempts}
use Rattle.fly_round.specs.Questions.{Question, AsksWhere, is_missed, first_question, node_questions, next_question, HasPathsOfIds}

pub record RoundState : Type 0 where
  pub plan : RunPlan
  pub view : View
  pub told : List Told
  pub waiting : Option Op

-- nothing was asked yet
abbrev pub first_round : RunPlan → View → RoundState
first_round plan v = record { plan = plan; view = v; told = []; waiting = None }

-- the answer to an operation
abbrev pub answer_of : Op → ℕ → Reply → Told
answer_of o place reply = record { place = place; op = o; reply = reply }

-- the operation that waited was answered
abbrev pub with_answer : RoundState → Op → ℕ → Reply → RoundState
with_answer r o place reply = record r { told = r.told ++ answer_of o place reply ∷ []; waiting = None }

-- ---- how far a round has come

-- the first question of the node of a number
abbrev pub first_of : RunPlan → View → ℕ → List Question
first_of plan v i = flat_map (λ p. option_to_list (first_question plan v (i, p))) (option_to_list (node_numbered plan i))

-- the questions of the nodes before the one at hand, and where that one's first is behind too, that
abbrev pub earlier_questions : RunPlan → View → List Told → Progress → List Question
earlier_questions plan v told at =
    flat_map (node_questions plan v told) (take at.next (enumerate_from 0 plan.nodes)) ++ (if at.half then first_of plan v at.next else [])

abbrev pub count_of : Option Op → ℕ
count_of (Some o) = 1
count_of None = 0

-- so many questions are behind; and what was told of the outputs of the node at hand, and that nothing was of later ones
pub record HasCome (plan : RunPlan) (v : View) (told : List Told) (at : Progress) (count : ℕ) : Type 0 where
  pub within : at.next ≤ length plan.nodes
  pub inside : at.half ≡ true → at.next < length plan.nodes
  pub behind : length (earlier_questions plan v told at) ≡ count
  pub here : (p : PlanNode) → node_numbered plan at.next ≡ Some p → is_missed v told p ≡ at.missed
  pub later : (i : ℕ) (p : PlanNode) → node_numbered plan i ≡ Some p → at.next < i → is_missed v told p ≡ false

abbrev pub is_look_up : Op → Bool
is_look_up (op.Lookup exec path) = true
is_look_up _ = false

abbrev pub is_miss_reply : Reply → Bool
is_miss_reply reply.Miss = true
is_miss_reply _ = false

-- the operation asks the first question of the node at hand; or it is no look-up
pub record IsAtHand (plan : RunPlan) (v : View) (at : Progress) (o : Op) : Type 0 where
  pub first : (p : PlanNode) → node_numbered plan at.next ≡ Some p → at.half ≡ true
      → AsksWhere v.name (first_question plan v (at.next, p)) (Some o)
  pub second : at.half ≡ false → is_look_up o ≡ false

-- what a round keeps
pub record IsRound (plan : RunPlan) (v : View) (broken : Bool) (attempts : List (Option ℕ)) (told : List Told) (waiting : Option Op)
    (at : Progress) : Type 0 where
  pub of_plan : IsViewOfPlan plan v
  pub ids : HasPathsOfIds plan
  pub broken_is : broken ≡ is_broken plan v.state []
  pub attempts_are : HasAttempts plan v attempts
  pub come : HasCome plan v told at (length told + count_of waiting)
  pub waits : (o : Op) → waiting ≡ Some o → IsAtHand plan v at o

-- a question that was found, with how far the round has come with it
pub record IsNext (plan : RunPlan) (v : View) (told : List Told) (o : Op) (at : Progress) : Type 0 where
  pub asks : AsksWhere v.name (next_question plan v told) (Some o)
  pub come : HasCome plan v told at (length told + 1)
  pub at_hand : IsAtHand plan v at o

-- the next question, where there is one more
abbrev pub FindsNext : RunPlan → View → List Told → Option (Op × Progress) → Type 0
FindsNext plan v told (Some found) = IsNext plan v told found.0 found.1
FindsNext plan v told None = next_question plan v told ≡ None
