use Rattle.std.proofs.Common.{IfOk, Bool, sym, ap, subst, None}
use Rattle.fly_state.specs.declared.phase.Phase.{Phase}
use Rattle.fly_state.specs.Moves.{where_true}
use Rattle.fly_state.specs.Plans.{is_task_target}
use Rattle.fly_state.specs.States.{own_state}
use Rattle.fly_state.proofs.TaskNodes.{task-node}
use Rattle.fly_round.specs.Questions.{AsksWhere, attempt_question, first_in}
use Rattle.fly_round.proofs.questions.first_question.Goals as goal

pub returns-in-Running : goal.returns-in-Running
returns-in-Running c = λ p planned.
    let plan = c.args.plan.now in
    let v = c.args.v.now in
    let i = c.args.number in
    let asked = c.attempt_question.result in
    let node = task-node plan c.primary.result.now c.primary.ensures v.state i p planned in
    let question = attempt_question plan v p None (own_state v.state i).attempt in
    subst (λ (f : Phase). IfOk asked (AsksWhere v.name (first_in plan v (i, p) f))) c.in-Running.ensures
    (subst (λ (b : Bool). IfOk asked (AsksWhere v.name (where_true b question))) (sym (ap is_task_target node.target))
    (c.attempt_question.ensures p planned (c.known_at.ensures plan p planned c.requires.known)))
