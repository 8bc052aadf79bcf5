use Rattle.std.proofs.Common.{◌∙◌, length, subst, sym}
use Rattle.fly_state.specs.Looks.{IsLookOrder}
use Rattle.fly_state.specs.Plans.{RunPlan, looks}
use Rattle.fly_state.proofs.PlanLemmas.{order-of-plan}
use Rattle.fly_state.proofs.plan.Plan.order.Goals as goal

pub returns : goal.returns
returns c =
    let f = c.self.inside in
    subst (IsLookOrder (looks c.args.self.now) (length c.args.self.now.nodes)) (sym c.as_slice.ensures)
    (subst (λ (plan : RunPlan). IsLookOrder (looks plan) (length plan.nodes) f.order) c.self.view_is
    (order-of-plan f.documents f.numbers f.sites f.order f.outputs c.self.invariant))
