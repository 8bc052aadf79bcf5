use Rattle.std.proofs.Common.{◌≡◌, Some, map, length, ap, sym, ◌∙◌, subst}
use Rattle.std.specs.List.{enumerate_from}
use Rattle.fly_docs.specs.declared.workflow.Workflow.{Workflow}
use Rattle.fly_docs.specs.Lookups.{primary_of}
use Rattle.fly_docs.specs.Readable.{HasTaskNodes}
use Rattle.fly_state.specs.Looks.{IsLookOrder}
use Rattle.fly_state.specs.PlanTables.{HasIds, outer_node}
use Rattle.fly_state.specs.Plans.{RunPlan, looks}
use Rattle.fly_docs.specs.Typed.{IsTypedWorkflow}
use Rattle.fly_state.proofs.PlanLemmas.{workflow_is, order-of-plan}
use Rattle.fly_state.proofs.PlanTypes.{typed_workflow}
use Rattle.fly_state.proofs.plan.Plan.primary.Goals as goal

pub returns : goal.returns
returns c =
    let f = c.self.inside in
    let t = c.self.invariant in
    let same = workflow_is f.documents f.numbers f.sites f.order f.outputs t c.as_slice.result.now c.index-as_slice-0.result c.as_slice.ensures c.index-as_slice-0.is in
    record {
      named = ap (λ (plan : RunPlan). primary_of plan.documents) (sym c.self.view_is) ∙ t.named ∙ ap Some (sym same);
      plain = subst HasTaskNodes (sym same) t.plain;
      ids = subst HasIds (sym same) t.ids;
      order = f.order;
      order_is =
          subst (λ (plan : RunPlan). IsLookOrder (looks plan) (length plan.nodes) f.order) c.self.view_is
          (order-of-plan f.documents f.numbers f.sites f.order f.outputs t);
      typed =
          subst (λ (plan : RunPlan). IsTypedWorkflow plan.documents c.index-as_slice-0.result) c.self.view_is
          (subst (IsTypedWorkflow f.documents) (sym same) (typed_workflow f.documents f.numbers f.sites f.order f.outputs t));
      nodes_are =
          ap (λ (plan : RunPlan). plan.nodes) (sym c.self.view_is) ∙ t.nodes_are
          ∙ ap (λ (w : Workflow). map (outer_node w) (enumerate_from 0 w.nodes)) (sym same);
    }
