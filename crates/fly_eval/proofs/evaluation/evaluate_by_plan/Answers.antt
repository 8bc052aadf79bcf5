use Rattle.std.proofs.Common.{◌∙◌}
use Rattle.fly_eval.specs.Evaluation.{evaluation_of}
use Rattle.fly_eval.proofs.PassSteps.{pass-types}
use Rattle.fly_eval.proofs.RootTold.{list-told}
use Rattle.fly_eval.proofs.evaluation.evaluate_by_plan.Goals as goal

pub root_of-requires : goal.root_of-requires
root_of-requires c =
    pass-types c.args.plan.now c.primary.result.now c.primary.ensures c.args.inputs.now c.in_ok-pass.pass c.in_ok-pass.ensures.holds

pub returns : goal.returns
returns c =
    let plan = c.args.plan.now in
    let inputs = c.args.inputs.now in
    let results = c.in_ok-records.records.results.now in
    let hits = c.in_ok-records.records.hits.now in
    let all = c.in_ok-pass.ensures in
    let root = c.in_ok-root.ensures inputs results hits all in
    let list = list-told plan c.primary.result.now c.primary.ensures inputs results hits c.in_ok-pass.pass all in
    let records = c.in_ok-records.ensures in
    (λ k. record { root = root k; list = list k }) ∙ (λ k. evaluation_of plan inputs (records.results_are k) (records.hits_are k))
