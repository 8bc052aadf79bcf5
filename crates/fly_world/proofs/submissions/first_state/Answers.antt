use Rattle.std.proofs.Common.{[], ◌∷◌, ◌++◌, map, take, sym, ap, ◌∙◌, arith}
use Rattle.std.proofs.Math.Numerals.{add-one}
use Rattle.fly_docs.specs.Plans.{PlanNode}
use Rattle.fly_state.specs.States.{fresh_node}
use Rattle.fly_world.proofs.SubmissionLemmas.{constant_more}
use Rattle.fly_world.proofs.submissions.first_state.Goals as goal

pub loop-preserved : goal.loop-preserved
loop-preserved c =
    let nodes = c.args.plan.now.nodes in
    let n = c.loop.counter in
    c.in_ok-push.ensures.items
    ∙ (λ i. c.loop.invariant i ++ c.fresh_node.ensures i ∷ [])
    ∙ constant_more fresh_node nodes n (omega arith)
    ∙ ap (λ k. map (λ (p : PlanNode). fresh_node) (take k nodes)) (sym (add-one n))
