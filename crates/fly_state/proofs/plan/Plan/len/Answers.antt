use Rattle.std.proofs.Common.{length, ap, arith}
use Rattle.fly_state.specs.Plans.{RunPlan}
use Rattle.fly_state.proofs.PlanLemmas.{count_is, sites_count}
use Rattle.fly_state.proofs.plan.Plan.len.Goals as goal

pub returns : goal.returns
returns c =
    let f = c.self.inside in
    let t = c.self.invariant in
    omega (
      arith,
      t.few,
      count_is f.documents f.numbers f.sites f.order f.outputs t,
      sites_count f.documents f.numbers f.sites f.order f.outputs t,
      ap (λ (plan : RunPlan). length plan.nodes) c.self.view_is,
    )
