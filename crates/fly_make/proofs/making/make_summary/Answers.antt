use Rattle.std.proofs.Common.{string_bytes}
use Rattle.std.proofs.lemmas.Result.{IfOk-weaker}
use Rattle.fly_make.specs.Making.{IsSummary, IsSummaryOf}
use Rattle.fly_make.proofs.GeneratedLemmas.{generated-summary}
use Rattle.fly_make.proofs.making.make_summary.Goals as goal

pub returns : goal.returns
returns g c =
    IfOk-weaker c.summary_of_run.result
    (λ text. IsSummaryOf c.args.count c.in_ok-plan.plan c.in_ok-hash.hash (string_bytes text))
    (λ text. IsSummary c.args.count (string_bytes text))
    (λ text said. generated-summary c.args.count c.in_ok-closure.closure c.in_ok-plan.plan c.in_ok-hash.hash
    (string_bytes text) c.in_ok-closure.ensures
    c.in_ok-plan.ensures c.in_ok-hash.ensures said)
    c.summary_of_run.ensures
