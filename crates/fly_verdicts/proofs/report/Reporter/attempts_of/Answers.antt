use Rattle.std.proofs.Common.{sym}
use Rattle.fly_docs.specs.Plans.{PlanNode}
use Rattle.fly_state.specs.Plans.{same_path}
use Rattle.fly_verdicts.proofs.SeenLemmas.{place-within}
use Rattle.fly_verdicts.proofs.report.Reporter.attempts_of.Goals as goal

pub node-requires : goal.node-requires
node-requires c =
    let plan = c.args.self.now.plan.now in
    let path = c.args.seen.now.path in
    place-within (λ (q : PlanNode). same_path path q.path) plan.nodes c.in-Some.node (sym c.in-Some.ensures)
