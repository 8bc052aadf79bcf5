use Rattle.std.proofs.Common.{◌≡◌, sym, ◌∙◌, ap}
use Rattle.std.specs.Option.{option_and_then}
use Rattle.fly_state.specs.Moves.{task_run_by}
use Rattle.fly_state.specs.Plans.{node_numbered}
use Rattle.fly_world.specs.Work.{task_of_attempt}
use Rattle.fly_world.proofs.SpotLemmas.{run_by-numbered}
use Rattle.fly_world.proofs.telling.task_of_attempt.Goals as goal

pub returns-in-Some : goal.returns-in-Some
returns-in-Some c =
    let plan = c.plan-plan.result.now in
    c.task.ensures
    ∙ sym (run_by-numbered plan c.primary-task_nodes.result.now c.primary-task_nodes.ensures c.in-Some.number)
    ∙ ap (λ o. option_and_then (task_run_by plan) (option_and_then (node_numbered plan) o)) (sym c.in-Some.is ∙ c.node_at.ensures)
    ∙ ap (λ p. task_of_attempt p c.args.name.now) c.plan-plan.ensures
