-- The step of a node, by its phase.
use Rattle.std.specs.Prelude.{ℕ, Bool, true, false, Option, Some, None}
use Rattle.fly_state.specs.declared.phase.Phase.{Phase}
use Rattle.fly_state.specs.declared.moves.Move.{Move}
use Rattle.fly_state.specs.declared.moves.Step.{Step}
use Rattle.fly_state.specs.declared.moves.Step.TheVariants as step
use Rattle.fly_state.specs.States.{is_final}
use Rattle.fly_round.specs.declared.answers.CatalogAnswer.TheVariants as answer
use Rattle.fly_round.specs.declared.answers.NodeAnswers.{NodeAnswers}
use Rattle.fly_round.specs.declared.answers.NodeAnswers.TheVariants as answers

-- a move of a node, or of the root
abbrev pub move_at : Option ℕ → Step → Move
move_at node s = record { at = record { node = node; item = None }; step = s }

-- of a node that isn't started: it takes its inputs, or these have a fault, or it is skipped
abbrev pub first_step : Bool → Bool → Bool → Option Step
first_step true fails skips = Some step.Queue
first_step false true skips = Some step.InputFail
first_step false false true = Some step.Skip
first_step false false false = None

-- of a queued node: of a task that isn't cached, that is cached, and that is serializable too
abbrev pub queued_step : Bool → Bool → NodeAnswers → Option Step
queued_step false serializable own = Some (step.Run None None)
queued_step true serializable (answers.One (answer.Hit place)) = Some (step.Hit place)
queued_step true false (answers.One (answer.Missed place)) = Some (step.Run (Some place) None)
queued_step true true (answers.Two (answer.Missed miss) (answer.Granted lease)) = Some (step.Run (Some miss) (Some lease))
queued_step _ _ _ = None

-- of a node whose outputs are being stored
abbrev pub stored_step : NodeAnswers → Option Step
stored_step (answers.One (answer.Stored place)) = Some (step.Stored place)
stored_step _ = None

-- of a node in a broken run
abbrev pub abort_step : Phase → Option Step
abort_step f = by (is_final f)
  where
    by : Bool → Option Step
    by true = None
    by false = Some step.Abort
