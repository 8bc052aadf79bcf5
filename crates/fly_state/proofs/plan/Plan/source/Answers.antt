use Rattle.std.proofs.Common.{◌≡◌, [], Some, option_and_then, ap, sym, ◌∙◌}
use Rattle.std.specs.Option.{option_copied}
use Rattle.fly_docs.specs.declared.workflow.Workflow.{Workflow}
use Rattle.fly_docs.specs.Bindings.{Promised, source_node}
use Rattle.fly_docs.specs.NodeInterfaces.{source_in}
use Rattle.fly_state.specs.Origins.{source_in_run}
use Rattle.fly_state.specs.Plans.{number_in, node_numbered, task_of}
use Rattle.fly_state.proofs.PlanLemmas.{workflow_is}
use Rattle.fly_state.proofs.PlanTypes.{source-start, source-nowhere, source-task, source-no_task}
use Rattle.fly_state.proofs.plan.Plan.source.Goals as goal

pub returns-then-is_start : goal.returns-then-is_start
returns-then-is_start c =
    let f = c.self.inside in
    let promise : Promised = (source_node c.args.node.now, c.args.var.now) in
    let same = workflow_is f.documents f.numbers f.sites f.order f.outputs c.self.invariant c.as_slice.result.now c.index-as_slice-0.result
    c.as_slice.ensures c.index-as_slice-0.is in
    c.variable_origin.ensures
    ∙ ap (source_in promise.1) (c.as_slice-then-is_start.ensures ∙ ap (λ (w : Workflow). w.interface.inputs) same)
    ∙ source-start f.documents f.numbers f.sites f.order f.outputs c.self.invariant promise (sym c.is_start.ensures ∙ c.if-is_start.true)
    ∙ ap (λ plan. source_in_run plan promise) c.self.view_is

pub returns-in_default : goal.returns-in_default
returns-in_default c =
    let f = c.self.inside in
    let promise : Promised = (source_node c.args.node.now, c.args.var.now) in
    source-nowhere f.documents f.numbers f.sites f.order f.outputs c.self.invariant promise (sym c.is_start.ensures ∙ c.if-is_start.false)
    (ap (λ plan. number_in plan [] promise.0) c.self.view_is ∙ sym c.source_number.ensures ∙ c.in_default.is)
    ∙ ap (λ plan. source_in_run plan promise) c.self.view_is

pub returns-in-Some-task : goal.returns-in-Some-task
returns-in-Some-task c =
    let f = c.self.inside in
    let promise : Promised = (source_node c.args.node.now, c.args.var.now) in
    let number = c.in-Some.number in
    c.variable_origin-in-Some-task.ensures
    ∙ ap (source_in promise.1) c.as_slice-in-Some-task.ensures
    ∙ source-task f.documents f.numbers f.sites f.order f.outputs c.self.invariant promise number c.in-Some-task.task.now
    (sym c.is_start.ensures ∙ c.if-is_start.false)
    (ap (λ plan. number_in plan [] promise.0) c.self.view_is ∙ sym c.source_number.ensures ∙ c.in-Some.is)
    (ap (λ plan. option_and_then (task_of plan) (node_numbered plan number)) c.self.view_is ∙ sym c.task.ensures ∙ ap option_copied c.in-Some-task.is)
    ∙ ap (λ plan. source_in_run plan promise) c.self.view_is

pub returns-in-None : goal.returns-in-None
returns-in-None c =
    let f = c.self.inside in
    let promise : Promised = (source_node c.args.node.now, c.args.var.now) in
    let number = c.in-Some.number in
    source-no_task f.documents f.numbers f.sites f.order f.outputs c.self.invariant promise number
    (sym c.is_start.ensures ∙ c.if-is_start.false)
    (ap (λ plan. number_in plan [] promise.0) c.self.view_is ∙ sym c.source_number.ensures ∙ c.in-Some.is)
    (ap (λ plan. option_and_then (task_of plan) (node_numbered plan number)) c.self.view_is ∙ sym c.task.ensures ∙ ap option_copied c.in-None.is)
    ∙ ap (λ plan. source_in_run plan promise) c.self.view_is
