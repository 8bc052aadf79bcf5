use Rattle.std.proofs.Common.{◌≡◌, Some, None, ap, sym, ◌∙◌, option_and_then}
use Rattle.std.specs.List.{slice_get}
use Rattle.std.specs.Option.{option_copied}
use Rattle.fly_state.specs.Plans.{node_numbered, task_of}
use Rattle.fly_state.proofs.PlanLemmas.{task-of_place, task-past}
use Rattle.fly_state.proofs.plan.Plan.task.Goals as goal

pub returns-in_default : goal.returns-in_default
returns-in_default c =
    let f = c.self.inside in
    let n = c.args.number in
    task-past f.documents f.numbers f.sites f.order f.outputs c.self.invariant n (sym c.get.ensures ∙ ap option_copied c.in_default.is)
    ∙ ap (λ plan. option_and_then (task_of plan) (node_numbered plan n)) c.self.view_is

pub returns-in_default-task : goal.returns-in_default-task
returns-in_default-task c =
    let f = c.self.inside in
    let n = c.args.number in
    task-of_place f.documents f.numbers f.sites f.order f.outputs c.self.invariant n c.in-Some.site.now None
    (sym c.get.ensures ∙ ap option_copied c.in-Some.is) c.in_default-task.is
    ∙ ap (λ plan. option_and_then (task_of plan) (node_numbered plan n)) c.self.view_is

pub returns : goal.returns
returns c =
    let f = c.self.inside in
    let n = c.args.number in
    c.get-2.ensures
    ∙ task-of_place f.documents f.numbers f.sites f.order f.outputs c.self.invariant n c.in-Some.site.now (Some c.in-Some-task.place)
    (sym c.get.ensures ∙ ap option_copied c.in-Some.is) c.in-Some-task.is
    ∙ ap (λ plan. option_and_then (task_of plan) (node_numbered plan n)) c.self.view_is
