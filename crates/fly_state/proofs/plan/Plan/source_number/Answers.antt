use Rattle.std.proofs.Common.{◌≡◌, [], ap, sym, ◌∙◌}
use Rattle.std.proofs.lemmas.Slice.Eq.{bytes_eq-Decides}
use Rattle.fly_docs.specs.Names.{start_node}
use Rattle.fly_docs.specs.Bindings.{source_node}
use Rattle.fly_state.specs.Plans.{number_in}
use Rattle.fly_state.proofs.PlanLemmas.{number_in-outer}
use Rattle.fly_state.proofs.PlanTypes.{start-no_node, source_node-other}
use Rattle.fly_state.proofs.plan.Plan.source_number.Goals as goal

pub returns-then-is_start : goal.returns-then-is_start
returns-then-is_start c =
    let f = c.self.inside in
    let id = source_node c.args.node.now in
    let start : id ≡ start_node = (bytes_eq-Decides id start_node).0 (sym c.is_start.ensures ∙ c.if-is_start.true) in
    sym (start-no_node f.documents f.numbers f.sites f.order f.outputs c.self.invariant)
    ∙ (λ i. number_in (c.self.view_is i) [] (sym start i))

pub returns : goal.returns
returns c =
    let f = c.self.inside in
    let node = c.args.node.now in
    c.copied.ensures ∙ c.get.ensures.value ∙ c.self.invariant.numbered node
    ∙ sym (number_in-outer f.documents f.numbers f.sites f.order f.outputs c.self.invariant node)
    ∙ (λ i. number_in (c.self.view_is i) [] (sym (source_node-other node (sym c.is_start.ensures ∙ c.if-is_start.false)) i))
