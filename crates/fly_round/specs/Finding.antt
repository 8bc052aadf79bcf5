-- The next question of a round, which is kept beside being asked.
use Rattle.std.specs.Prelude.{◌≡◌, List, Option, Some, None}
use Rattle.fly_state.specs.declared.view.View.{View}
use Rattle.fly_state.specs.Plans.{RunPlan}
use Rattle.fly_round.specs.declared.told.Told.{Told}
use Rattle.fly_round.specs.declared.finding.Asked.{Asked}
use Rattle.fly_round.specs.Questions.{next_question}
use Rattle.fly_round.specs.Rounds.{IsNext}

-- the next question twice, where there is one more
abbrev pub FindsTwice : RunPlan → View → List Told → Option Asked → Type 0
FindsTwice plan v told (Some asked) = IsNext plan v told asked.op asked.at × (asked.kept ≡ asked.op)
FindsTwice plan v told None = next_question plan v told ≡ None
