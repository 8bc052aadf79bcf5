-- What was told of each node, as far as its steps depend on it.
use Rattle.std.specs.Prelude.{◌≡◌, ℕ, List, [], ◌∷◌, slice_get, Some}
use Rattle.fly_docs.specs.Plans.{PlanNode}
use Rattle.fly_state.specs.declared.entries.Op.{Op}
use Rattle.fly_state.specs.declared.entries.Op.TheVariants as op
use Rattle.fly_state.specs.declared.entries.Reply.{Reply}
use Rattle.fly_state.specs.declared.entries.Reply.TheVariants as reply
use Rattle.fly_state.specs.declared.view.View.{View}
use Rattle.fly_state.specs.Plans.{RunPlan, node_numbered}
use Rattle.fly_round.specs.declared.told.Told.{Told}
use Rattle.fly_round.specs.declared.answers.CatalogAnswer.{CatalogAnswer}
use Rattle.fly_round.specs.declared.answers.CatalogAnswer.TheVariants as answer
use Rattle.fly_round.specs.declared.answers.NodeAnswers.{NodeAnswers}
use Rattle.fly_round.specs.declared.answers.NodeAnswers.TheVariants as answers
use Rattle.fly_round.specs.Moves.{told_of}

-- what the answer to a look-up comes to
abbrev pub look_up_answer : ℕ → Reply → CatalogAnswer
look_up_answer place reply.Miss = answer.Missed place
look_up_answer place (reply.Hit content) = answer.Hit place
look_up_answer place _ = answer.Other

-- to a reservation
abbrev pub reserve_answer : ℕ → Reply → CatalogAnswer
reserve_answer place (reply.Granted expiry) = answer.Granted place
reserve_answer place _ = answer.Other

-- to outputs that were put into the catalog
abbrev pub put_answer : ℕ → Reply → CatalogAnswer
put_answer place reply.Stored = answer.Stored place
put_answer place reply.Present = answer.Stored place
put_answer place _ = answer.Other

-- what an answer comes to
abbrev pub answer_in : ℕ → Reply → Op → CatalogAnswer
answer_in place r (op.Lookup exec path) = look_up_answer place r
answer_in place r (op.Reserve exec path) = reserve_answer place r
answer_in place r (op.Put exec path) = put_answer place r
answer_in place r _ = answer.Other

abbrev pub answer_to : Told → CatalogAnswer
answer_to t = answer_in t.place t.reply t.op

-- one answer more
abbrev pub answers_with : NodeAnswers → CatalogAnswer → NodeAnswers
answers_with answers.Nothing a = answers.One a
answers_with (answers.One first) a = answers.Two first a
answers_with (answers.Two first second) a = answers.More
answers_with answers.More a = answers.More

-- all that was told of a node
abbrev pub answers_in : List Told → NodeAnswers
answers_in [] = answers.Nothing
answers_in (a ∷ []) = answers.One (answer_to a)
answers_in (a ∷ b ∷ []) = answers.Two (answer_to a) (answer_to b)
answers_in (a ∷ b ∷ c ∷ more) = answers.More

-- the list has for each node what was told of it
abbrev pub HasAnswers : RunPlan → View → List Told → List NodeAnswers → Type 0
HasAnswers plan v told table =
    (i : ℕ) (p : PlanNode) → node_numbered plan i ≡ Some p → slice_get table i ≡ Some (answers_in (told_of v told p))
