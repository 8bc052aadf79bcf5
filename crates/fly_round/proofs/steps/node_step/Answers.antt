use Rattle.std.proofs.Common.{List, Option, map, option_to_list, Some, sym, ◌∙◌, ap, refl}
use Rattle.fly_state.specs.declared.phase.Phase.TheVariants as phase
use Rattle.fly_state.specs.declared.moves.Move.{Move}
use Rattle.fly_state.specs.declared.moves.Step.{Step}
use Rattle.fly_state.proofs.TaskNodes.{task-node}
use Rattle.fly_round.specs.Steps as words
use Rattle.fly_round.specs.Steps.{move_at}
use Rattle.fly_round.proofs.StepLemmas.{node-broken, node-first, node-queued, node-running, node-retry, node-stored, node-final}
use Rattle.fly_round.proofs.steps.node_step.Goals as goal

pub returns-then-broken : goal.returns-then-broken
returns-then-broken c = λ told p has planned.
    let plan = c.args.plan.now in
    let w = c.primary-primary.result.now in
    let outer = c.primary-primary.ensures in
    let v = c.args.v.now in
    let i = c.args.number in
    let made : Option Step → List Move = λ o. map (move_at (Some i)) (option_to_list o) in
    node-broken plan w outer v c.requires.of_plan i p planned told (sym c.requires.broken_is ∙ c.if-broken.true) c.phase_at-phase.result (sym c.phase_at-phase.ensures)
    ∙ ap made (sym c.abort_step.ensures)

pub returns-in-NotYetStarted : goal.returns-in-NotYetStarted
returns-in-NotYetStarted c = λ told p has planned.
    let plan = c.args.plan.now in
    let w = c.primary-primary.result.now in
    let outer = c.primary-primary.ensures in
    let v = c.args.v.now in
    let i = c.args.number in
    let made : Option Step → List Move = λ o. map (move_at (Some i)) (option_to_list o) in
    node-first plan w outer v c.requires.of_plan i p planned told (sym c.requires.broken_is ∙ c.if-broken.false)
    (sym c.phase_at-phase.ensures ∙ c.in-NotYetStarted.is)
    ∙ ap made (sym (c.first_step.ensures p planned))

pub returns-in-Queued : goal.returns-in-Queued
returns-in-Queued c = λ told p has planned.
    let plan = c.args.plan.now in
    let w = c.primary-primary.result.now in
    let outer = c.primary-primary.ensures in
    let v = c.args.v.now in
    let i = c.args.number in
    let made : Option Step → List Move = λ o. map (move_at (Some i)) (option_to_list o) in
    let node = task-node plan w outer v.state i p planned in
    node-queued plan w outer v c.requires.of_plan i p planned told (sym c.requires.broken_is ∙ c.if-broken.false)
    (sym c.phase_at-phase.ensures ∙ c.in-Queued.is)
    ∙ ap (λ own. made (words.queued_step node.task.cached node.task.serializable own)) (sym (c.answers_at.ensures _ (has i p planned)))
    ∙ ap made (sym (c.queued_step.ensures p node.task planned node.runs))

pub returns-in-Running : goal.returns-in-Running
returns-in-Running c = λ told p has planned.
    let plan = c.args.plan.now in
    let w = c.primary-primary.result.now in
    let outer = c.primary-primary.ensures in
    let v = c.args.v.now in
    let i = c.args.number in
    let made : Option Step → List Move = λ o. map (move_at (Some i)) (option_to_list o) in
    node-running plan w outer v c.requires.of_plan i p planned told (sym c.requires.broken_is ∙ c.if-broken.false)
    (sym c.phase_at-phase.ensures ∙ c.in-Running.is)
    ∙ ap made (sym (c.settle_step.ensures plan p planned c.requires.known))

pub returns-in-RetryableFailure : goal.returns-in-RetryableFailure
returns-in-RetryableFailure c = λ told p has planned.
    let plan = c.args.plan.now in
    let w = c.primary-primary.result.now in
    let outer = c.primary-primary.ensures in
    let v = c.args.v.now in
    let i = c.args.number in
    node-retry plan w outer v c.requires.of_plan i p planned told (sym c.requires.broken_is ∙ c.if-broken.false)
    (sym c.phase_at-phase.ensures ∙ c.in-RetryableFailure.is)

pub returns-in-Succeeding : goal.returns-in-Succeeding
returns-in-Succeeding c = λ told p has planned.
    let plan = c.args.plan.now in
    let w = c.primary-primary.result.now in
    let outer = c.primary-primary.ensures in
    let v = c.args.v.now in
    let i = c.args.number in
    let made : Option Step → List Move = λ o. map (move_at (Some i)) (option_to_list o) in
    node-stored plan w outer v c.requires.of_plan i p planned told (sym c.requires.broken_is ∙ c.if-broken.false)
    (sym c.phase_at-phase.ensures ∙ c.in-Succeeding.is)
    ∙ ap (λ own. made (words.stored_step own)) (sym (c.answers_at-in-Succeeding.ensures _ (has i p planned)))
    ∙ ap made (sym c.stored_step.ensures)

pub returns-in-Succeeded : goal.returns-in-Succeeded
returns-in-Succeeded c = λ told p has planned.
    let plan = c.args.plan.now in
    let w = c.primary-primary.result.now in
    let outer = c.primary-primary.ensures in
    let v = c.args.v.now in
    let i = c.args.number in
    node-final plan w outer v c.requires.of_plan i p planned told (sym c.requires.broken_is ∙ c.if-broken.false)
    phase.Succeeded refl (sym c.phase_at-phase.ensures ∙ c.in-Succeeded.is)

pub returns-in-Failed : goal.returns-in-Failed
returns-in-Failed c = λ told p has planned.
    let plan = c.args.plan.now in
    let w = c.primary-primary.result.now in
    let outer = c.primary-primary.ensures in
    let v = c.args.v.now in
    let i = c.args.number in
    node-final plan w outer v c.requires.of_plan i p planned told (sym c.requires.broken_is ∙ c.if-broken.false)
    phase.Failed refl (sym c.phase_at-phase.ensures ∙ c.in-Failed.is)

pub returns-in-TimedOut : goal.returns-in-TimedOut
returns-in-TimedOut c = λ told p has planned.
    let plan = c.args.plan.now in
    let w = c.primary-primary.result.now in
    let outer = c.primary-primary.ensures in
    let v = c.args.v.now in
    let i = c.args.number in
    node-final plan w outer v c.requires.of_plan i p planned told (sym c.requires.broken_is ∙ c.if-broken.false)
    phase.TimedOut refl (sym c.phase_at-phase.ensures ∙ c.in-TimedOut.is)

pub returns-in-Skipped : goal.returns-in-Skipped
returns-in-Skipped c = λ told p has planned.
    let plan = c.args.plan.now in
    let w = c.primary-primary.result.now in
    let outer = c.primary-primary.ensures in
    let v = c.args.v.now in
    let i = c.args.number in
    node-final plan w outer v c.requires.of_plan i p planned told (sym c.requires.broken_is ∙ c.if-broken.false)
    phase.Skipped refl (sym c.phase_at-phase.ensures ∙ c.in-Skipped.is)

pub returns-in-Aborted : goal.returns-in-Aborted
returns-in-Aborted c = λ told p has planned.
    let plan = c.args.plan.now in
    let w = c.primary-primary.result.now in
    let outer = c.primary-primary.ensures in
    let v = c.args.v.now in
    let i = c.args.number in
    node-final plan w outer v c.requires.of_plan i p planned told (sym c.requires.broken_is ∙ c.if-broken.false)
    phase.Aborted refl (sym c.phase_at-phase.ensures ∙ c.in-Aborted.is)
