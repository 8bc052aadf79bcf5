use Rattle.std.proofs.Common.{◌≡◌, length, get_or, sym, ap, ◌∙◌}
use Rattle.fly_state.specs.Plans.{number_of}
use Rattle.fly_state.specs.Sites.{node_place}
use Rattle.fly_state.proofs.PlanLemmas.{number_of-first, number_of-none}
use Rattle.fly_state.proofs.plan.Plan.node_at.Goals as goal

pub returns-then-path-ne1 : goal.returns-then-path-ne1
returns-then-path-ne1 c =
    let fields = c.self.inside in
    let path = c.args.path.now in
    let long = ap length c.as_slice-path.ensures in
    sym (number_of-none fields.documents fields.numbers fields.sites fields.order fields.outputs c.self.invariant path
    (λ one. c.if-path-ne1.true (long ∙ one)))
    ∙ ap (λ plan. number_of plan path) c.self.view_is

pub returns : goal.returns
returns c =
    let fields = c.self.inside in
    let path = c.args.path.now in
    let id = c.index-path-0.result in
    let long = ap length c.as_slice-path.ensures in
    let one : length path ≡ 1 = sym long ∙ c.if-path-ne1.false in
    let first : id ≡ get_or path 0 id = c.index-path-0.is ∙ ap (λ xs. get_or xs 0 id) c.as_slice-path.ensures in
    c.copied.ensures ∙ c.get.ensures.value ∙ c.self.invariant.numbered id
    ∙ ap (node_place c.self.invariant.workflow.nodes) first
    ∙ sym (number_of-first fields.documents fields.numbers fields.sites fields.order fields.outputs c.self.invariant path id one)
    ∙ ap (λ plan. number_of plan path) c.self.view_is
