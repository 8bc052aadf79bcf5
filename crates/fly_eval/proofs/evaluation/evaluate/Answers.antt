use Rattle.std.proofs.Common.{sym, ap, subst, ◌∙◌}
use Rattle.fly_state.specs.Plans.{RunPlan, plan_for}
use Rattle.fly_state.proofs.Loops.{if_ok}
use Rattle.fly_eval.specs.declared.seen.Evaluated.{Evaluated}
use Rattle.fly_eval.specs.Evaluation.{evaluation_of}
use Rattle.fly_eval.specs.Laws.{IsKeptEvaluation}
use Rattle.fly_eval.proofs.SeenKept.{evaluation-kept}
use Rattle.fly_eval.proofs.evaluation.evaluate.Goals as goal

pub returns-clause-monotone : goal.returns-clause-monotone
returns-clause-monotone c =
    let plan = plan_for c.args.c.now in
    let inputs = c.args.inputs.now in
    let results = c.args.results.now in
    let hits = c.args.hits.now in
    if_ok c.evaluate_by_plan.result
    (λ e is later later_hits more more_hits.
    subst (λ (x : Evaluated). IsKeptEvaluation x (evaluation_of plan inputs later later_hits))
    (sym (is ∙ ap (λ (p : RunPlan). evaluation_of p inputs results hits) c.in_ok-plan.ensures))
    (evaluation-kept plan inputs results later hits later_hits more more_hits))
    c.evaluate_by_plan.ensures
