use Rattle.std.proofs.Common.{◌≡◌, ◌<◌, length, ap, sym, ◌∙◌, arith, option_map, subst}
use Rattle.fly_docs.specs.declared.workflow.Workflow.{Workflow}
use Rattle.fly_docs.specs.Plans.{PlanNode, plan_of}
use Rattle.fly_state.specs.Plans.{RunPlan, node_numbered}
use Rattle.fly_state.proofs.PlanLemmas.{count_is, workflow_is, node-planned}
use Rattle.fly_state.proofs.plan.Plan.node.Goals as goal

pub bounds-nodes-number : goal.bounds-nodes-number
bounds-nodes-number c =
    let f = c.self.inside in
    let t = c.self.invariant in
    let same = workflow_is f.documents f.numbers f.sites f.order f.outputs t c.as_slice.result.now c.index-as_slice-0.result c.as_slice.ensures c.index-as_slice-0.is in
    let nodes : c.as_slice-nodes.result.now ≡ t.workflow.nodes =
    c.as_slice-nodes.ensures ∙ ap (λ (v : Workflow). v.nodes) (sym c.index-as_slice-0.is ∙ same) in
    omega (
      arith,
      c.requires,
      ap length nodes,
      count_is f.documents f.numbers f.sites f.order f.outputs t,
      ap (λ (plan : RunPlan). length plan.nodes) c.self.view_is,
    )

pub returns : goal.returns
returns c =
    let f = c.self.inside in
    let t = c.self.invariant in
    let same = workflow_is f.documents f.numbers f.sites f.order f.outputs t c.as_slice.result.now c.index-as_slice-0.result c.as_slice.ensures c.index-as_slice-0.is in
    let nodes : c.as_slice-nodes.result.now ≡ t.workflow.nodes =
    c.as_slice-nodes.ensures ∙ ap (λ (v : Workflow). v.nodes) (sym c.index-as_slice-0.is ∙ same) in
    let small : c.args.number < length (plan_of f.documents) =
    subst (λ (plan : RunPlan). c.args.number < length plan.nodes) (sym c.self.view_is) c.requires in
    ap (λ plan. option_map (λ (p : PlanNode). p.node) (node_numbered plan c.args.number)) (sym c.self.view_is)
    ∙ node-planned f.documents f.numbers f.sites f.order f.outputs t c.args.number small c.as_slice-nodes.result.now c.index-nodes-number.result
    nodes c.index-nodes-number.is
