use Rattle.std.proofs.Common.{[], option_and_then, sym, ◌∙◌, ap}
use Rattle.std.specs.Option.{option_copied}
use Rattle.std.proofs.lemmas.Option.{none-some}
use Rattle.fly_state.specs.Plans.{node_numbered, task_of}
use Rattle.fly_state.specs.States.{fresh_slot}
use Rattle.fly_state.proofs.TaskNodes.{task-node}
use Rattle.fly_world.proofs.AttemptLemmas.{place-of}
use Rattle.fly_world.proofs.attempts.are_outputs_at.Goals as goal

pub returns-in-None : goal.returns-in-None
returns-in-None c = λ place at.
    let s = c.args.store.now in
    let i = c.args.spot.node in
    let plan = c.plan-plan.result.now in
    let planned = ap (λ p. node_numbered p i) c.plan-plan.ensures
    ∙ (place-of s.plan s.world c.args.spot place at).node in
    let node = task-node plan c.primary.result.now c.primary.ensures (record { root = fresh_slot; nodes = [] }) i
    place.node planned in
    absurd (none-some node.task
    (sym (ap option_copied c.in-None.is) ∙ c.task.ensures ∙ ap (option_and_then (task_of plan)) planned ∙ node.runs))
