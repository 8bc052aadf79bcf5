use Rattle.std.proofs.Common.{◌≡◌, ◌<◌, length, get_or, Some, ap, sym, ◌∙◌, arith, option_map, subst}
use Rattle.fly_docs.specs.Plans.{PlanNode, plan_of}
use Rattle.fly_state.specs.declared.sites.Site.{Site}
use Rattle.fly_state.specs.Plans.{RunPlan, node_numbered}
use Rattle.fly_state.proofs.PlanLemmas.{count_is, sites_count, path-site}
use Rattle.fly_state.proofs.plan.Plan.path_of.Goals as goal

pub bounds-as_slice-n : goal.bounds-as_slice-n
bounds-as_slice-n c =
    let f = c.self.inside in
    let t = c.self.invariant in
    omega (
      arith,
      c.requires,
      ap length c.as_slice.ensures,
      sites_count f.documents f.numbers f.sites f.order f.outputs t,
      count_is f.documents f.numbers f.sites f.order f.outputs t,
      ap (λ (plan : RunPlan). length plan.nodes) c.self.view_is,
    )

pub returns : goal.returns
returns c =
    let f = c.self.inside in
    let t = c.self.invariant in
    let i = c.args.n in
    let small : i < length (plan_of f.documents) = subst (λ (plan : RunPlan). i < length plan.nodes) (sym c.self.view_is) c.requires in
    let site = c.index-as_slice-n.result in
    ap (λ plan. option_map (λ (p : PlanNode). p.path) (node_numbered plan i)) (sym c.self.view_is)
    ∙ path-site f.documents f.numbers f.sites f.order f.outputs t i small site
    (c.index-as_slice-n.is ∙ ap (λ xs. get_or xs i site) c.as_slice.ensures)
    ∙ ap (λ (s : Site). Some s.path) c.index-as_slice-n.is
