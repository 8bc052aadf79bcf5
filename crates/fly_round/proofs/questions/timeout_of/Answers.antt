use Rattle.std.proofs.Common.{option_and_then, ap, ◌∙◌, []}
use Rattle.std.proofs.lemmas.Option.{none-some}
use Rattle.fly_state.specs.Plans.{task_of}
use Rattle.fly_state.specs.States.{fresh_slot}
use Rattle.fly_state.proofs.TaskNodes.{task-node}
use Rattle.fly_round.proofs.questions.timeout_of.Goals as goal

pub returns-in-None : goal.returns-in-None
returns-in-None c = λ p planned.
    let plan = c.args.plan.now in
    let node = task-node plan c.primary.result.now c.primary.ensures (record { root = fresh_slot; nodes = [] }) c.args.number p planned in
    absurd (none-some node.task (c.in-None.ensures ∙ ap (option_and_then (task_of plan)) planned ∙ node.runs))
