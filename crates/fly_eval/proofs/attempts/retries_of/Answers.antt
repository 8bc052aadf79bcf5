use Rattle.std.proofs.Common.{[], option_and_then, sym, ap, ◌∙◌}
use Rattle.std.specs.Option.{option_copied}
use Rattle.std.proofs.lemmas.Option.{none-some}
use Rattle.fly_state.specs.declared.slots.ExecState.{ExecState}
use Rattle.fly_state.specs.Plans.{task_of}
use Rattle.fly_state.specs.States.{fresh_slot}
use Rattle.fly_state.proofs.TaskNodes.{task-node}
use Rattle.fly_eval.proofs.attempts.retries_of.Goals as goal

pub returns-in-None : goal.returns-in-None
returns-in-None c = λ n planned.
    let plan = c.args.plan.now in
    let s : ExecState = record { root = fresh_slot; nodes = [] } in
    let node = task-node plan c.primary.result.now c.primary.ensures s c.args.number n planned in
    let runs = c.task.ensures ∙ ap (option_and_then (task_of plan)) planned ∙ node.runs in
    absurd (none-some node.task (sym (ap option_copied c.in-None.is) ∙ runs))
