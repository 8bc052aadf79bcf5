use Rattle.std.proofs.Common.{◌&&◌, sym, ◌∙◌, subst, None}
use Rattle.fly_state.specs.Checks.{IsTakingOf}
use Rattle.fly_state.specs.Inputs.{inputs_of_node}
use Rattle.fly_state.proofs.MoveLemmas.{queued-there, there-value}
use Rattle.fly_state.proofs.TaskNodes.{task-node}
use Rattle.fly_state.proofs.legal.may_queue.Goals as goal

pub returns-in-There : goal.returns-in-There
returns-in-There c = λ n planned.
    let plan = c.args.p.now in
    let s = c.args.state.now in
    let node = task-node plan c.primary.result.now c.primary.ensures s c.args.number n planned in
    let taken = inputs_of_node plan s n None in
    sym (queued-there n node.id node.target plan s c.args.number
    ∙ (λ k. (sym c.is_ready.ensures ∙ c.if-is_ready.true) k
    && there-value taken (subst (IsTakingOf taken) c.in-There.is (c.inputs.ensures n planned)) k))
