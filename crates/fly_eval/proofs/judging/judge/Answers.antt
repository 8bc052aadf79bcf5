use Rattle.std.proofs.Common.{sym, ap, ◌∙◌}
use Rattle.fly_state.specs.Standing.{meaning_of}
use Rattle.fly_state.proofs.Loops.{if_ok}
use Rattle.fly_state.proofs.TaskNodes.{task-node}
use Rattle.fly_eval.specs.Judging.{entering_over}
use Rattle.fly_eval.proofs.JudgedBy.{tried-by}
use Rattle.fly_eval.proofs.judging.judge.Goals as goal

pub returns-in-Ok : goal.returns-in-Ok
returns-in-Ok c = λ p planned.
    let plan = c.args.plan.now in
    let s = c.args.state.now in
    let node = task-node plan c.primary.result.now c.primary.ensures s c.args.number p planned in
    if_ok c.tried.result
    (λ j is. tried-by plan c.args.records.now.results.now c.args.records.now.hits.now p node.id node.target
    (entering_over plan s c.args.known.now c.args.number p) c.in-Ok.given j
    (sym c.standing_by.ensures ∙ ap meaning_of c.in-Ready.is) (c.in-Ok.ensures p planned) is)
    (c.tried.ensures p planned)
