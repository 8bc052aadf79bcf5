use Rattle.std.proofs.Common.{◌≡◌, ◌<◌, length, get_or, ap, sym, ◌∙◌, arith, subst}
use Rattle.fly_docs.specs.Plans.{plan_of}
use Rattle.fly_state.specs.declared.sites.Site.{Site}
use Rattle.fly_state.specs.Plans.{RunPlan, node_numbered, task_of}
use Rattle.fly_state.proofs.PlanLemmas.{count_is, sites_count, bindings-site}
use Rattle.fly_state.proofs.plan.Plan.bindings.Goals as goal

pub bounds-as_slice-number : goal.bounds-as_slice-number
bounds-as_slice-number c =
    let f = c.self.inside in
    let t = c.self.invariant in
    omega (
      arith,
      c.requires,
      ap length c.as_slice.ensures,
      sites_count f.documents f.numbers f.sites f.order f.outputs t,
      count_is f.documents f.numbers f.sites f.order f.outputs t,
      ap (λ (plan : RunPlan). length plan.nodes) c.self.view_is,
    )

pub returns : goal.returns
returns c = λ p t planned task.
    let f = c.self.inside in
    let i = c.args.number in
    let small : i < length (plan_of f.documents) = subst (λ (plan : RunPlan). i < length plan.nodes) (sym c.self.view_is) c.requires in
    let site = c.index-as_slice-number.result in
    c.as_slice-2.ensures ∙ ap (λ (s : Site). s.bindings) (sym c.index-as_slice-number.is)
    ∙ bindings-site f.documents f.numbers f.sites f.order f.outputs c.self.invariant i small site p t
    (c.index-as_slice-number.is ∙ ap (λ xs. get_or xs i site) c.as_slice.ensures)
    (ap (λ plan. node_numbered plan i) c.self.view_is ∙ planned) (ap (λ plan. task_of plan p) c.self.view_is ∙ task)
