use Rattle.std.proofs.Common.{None, is_some, sym, ap, ◌∙◌, ⊎_elim}
use Rattle.fly_state.specs.declared.moves.Step.{Step}
use Rattle.fly_state.specs.Moves.{node_effect, settled_slot, success_phase}
use Rattle.fly_state.specs.States.{own_state}
use Rattle.fly_state.proofs.MoveLemmas.{settled-there, no-begin, no-choose, no-no_case, no-close}
use Rattle.fly_state.proofs.TaskNodes.{task-node}
use Rattle.fly_state.proofs.legal.is_node_step.Goals as goal

pub returns-in-Settle : goal.returns-in-Settle
returns-in-Settle c = λ n planned.
    let plan = c.args.p.now in
    let v = c.args.v.now in
    let i = c.args.number in
    let node = task-node plan c.primary.result.now c.primary.ensures v.state i n planned in
    let slot = own_state v.state i in
    c.may_settle.ensures n slot (success_phase plan n) planned
    (sym c.phase_at-phase.ensures) (sym c.attempt_at.ensures)
    ∙ sym (ap (λ step. is_some (node_effect plan v c.args.cited.now i n step)) c.in-Settle.is
    ∙ settled-there n node.id node.target plan v.state i (settled_slot plan v n None (success_phase plan n) slot))

pub returns-in-Begin : goal.returns-in-Begin
returns-in-Begin c = λ n planned.
    let plan = c.args.p.now in
    let v = c.args.v.now in
    let i = c.args.number in
    let entries = c.args.cited.now in
    let node = task-node plan c.primary.result.now c.primary.ensures v.state i n planned in
    let made = λ (step : Step). is_some (node_effect plan v entries i n step) in
    sym (⊎_elim (λ e. ap made e ∙ no-begin n node.id node.target plan v entries i)
    (⊎_elim (λ e. ap made e.1 ∙ no-choose n node.id node.target plan v entries i e.0)
    (⊎_elim (λ e. ap made e ∙ no-no_case n node.id node.target plan v entries i)
    (λ e. ap made e ∙ no-close n node.id node.target plan v entries i)))
    c.in-Begin.is)
