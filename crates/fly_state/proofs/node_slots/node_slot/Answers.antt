use Rattle.std.proofs.Common.{IfOk, subst, ⊎_elim, sym, ap, ◌∙◌, is_some}
use Rattle.std.proofs.lemmas.Bool.{false≢true}
use Rattle.fly_state.specs.declared.moves.Step.{Step}
use Rattle.fly_state.specs.declared.moves.Step.TheVariants as step
use Rattle.fly_state.specs.Moves.{node_effect, run_slot}
use Rattle.fly_state.specs.NodeSlots.{HasEffect, MakesSlot}
use Rattle.fly_state.specs.States.{own_state}
use Rattle.fly_state.specs.PlanTables.{outer_node}
use Rattle.fly_state.proofs.EffectLemmas.{ok-makes, run-makes}
use Rattle.fly_state.proofs.MoveLemmas.{no-begin, no-choose, no-no_case, no-close}
use Rattle.fly_state.proofs.OuterPlans.{planned-outer}
use Rattle.fly_state.proofs.TaskNodes.{task-node}
use Rattle.fly_state.proofs.node_slots.node_slot.Goals as goal

pub queued_slot-requires-clause-legal : goal.queued_slot-requires-clause-legal
queued_slot-requires-clause-legal c =
    subst (HasEffect c.args.p.now c.args.v.now c.args.cited.now c.args.number) c.in-Queue.is c.requires.legal

pub input_failed_slot-requires-clause-legal : goal.input_failed_slot-requires-clause-legal
input_failed_slot-requires-clause-legal c =
    subst (HasEffect c.args.p.now c.args.v.now c.args.cited.now c.args.number) c.in-InputFail.is c.requires.legal

pub hit_slot-requires-clause-legal : goal.hit_slot-requires-clause-legal
hit_slot-requires-clause-legal c =
    subst (HasEffect c.args.p.now c.args.v.now c.args.cited.now c.args.number) c.in-Hit.is c.requires.legal

pub settled_slot-requires-clause-legal : goal.settled_slot-requires-clause-legal
settled_slot-requires-clause-legal c =
    subst (HasEffect c.args.p.now c.args.v.now c.args.cited.now c.args.number) c.in-Settle.is c.requires.legal

pub unreachable-requires : goal.unreachable-requires
unreachable-requires c =
    let plan = c.args.p.now in
    let v = c.args.v.now in
    let w = c.primary.result.now in
    let i = c.args.number in
    let es = c.args.cited.now in
    let found = planned-outer plan w c.primary.ensures i c.requires.number in
    let n = outer_node w (i, found.0) in
    let node = task-node plan w c.primary.ensures v.state i n found.1 in
    let made = λ (step : Step). is_some (node_effect plan v es i n step) in
    let none = ⊎_elim (λ e. ap made e ∙ no-begin n node.id node.target plan v es i)
    (⊎_elim (λ e. ap made e.1 ∙ no-choose n node.id node.target plan v es i e.0)
    (⊎_elim (λ e. ap made e ∙ no-no_case n node.id node.target plan v es i)
    (λ e. ap made e ∙ no-close n node.id node.target plan v es i)))
    c.in-Begin.is in
    false≢true (sym none ∙ c.requires.legal n found.1)

pub returns-in-Run : goal.returns-in-Run
returns-in-Run c =
    let plan = c.args.p.now in
    let v = c.args.v.now in
    let i = c.args.number in
    let es = c.args.cited.now in
    let miss = c.in-Run.miss in
    let lease = c.in-Run.lease in
    let legal = subst (HasEffect plan v es i) c.in-Run.is c.requires.legal in
    let node = task-node plan c.primary.result.now c.primary.ensures v.state i in
    subst (λ st. IfOk c.run_slot.result (MakesSlot plan v es i st)) (sym c.in-Run.is)
    (ok-makes plan v es i (step.Run miss lease) (run_slot (own_state v.state i)) c.run_slot.result
    (λ p planned. run-makes plan v i p planned es miss lease (node p planned) legal) c.run_slot.ensures)
