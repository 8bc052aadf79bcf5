use Rattle.std.proofs.Common.{◌&&◌, sym, ◌∙◌, subst, None}
use Rattle.fly_state.specs.Checks.{IsTakingOf}
use Rattle.fly_state.specs.Inputs.{inputs_of_node}
use Rattle.fly_state.proofs.MoveLemmas.{failed-there, outside-code}
use Rattle.fly_state.proofs.TaskNodes.{task-node}
use Rattle.fly_state.proofs.legal.do_inputs_fail.Goals as goal

pub returns-in-Outside : goal.returns-in-Outside
returns-in-Outside c = λ n planned.
    let plan = c.args.p.now in
    let s = c.args.state.now in
    let node = task-node plan c.primary.result.now c.primary.ensures s c.args.number n planned in
    let taken = inputs_of_node plan s n None in
    sym (failed-there n node.id node.target plan s c.args.number
    ∙ (λ k. (sym c.is_ready.ensures ∙ c.if-is_ready.true) k
    && outside-code taken (subst (IsTakingOf taken) c.in-Outside.is (c.inputs.ensures n planned)) k))
