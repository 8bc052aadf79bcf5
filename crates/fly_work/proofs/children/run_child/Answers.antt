use Rattle.std.proofs.lemmas.Result.{err_from_is_err_and}
use Rattle.fly_work.proofs.ChildLemmas.{hears-short, hears-end}
use Rattle.fly_work.proofs.children.run_child.Goals as goal

pub returns-in_err-heard : goal.returns-in_err-heard
returns-in_err-heard g c =
    let short = err_from_is_err_and c.from_residual.result c.from_residual.ensures.1 in
    rw short.1 (hears-short _ _ c.args.work.now c.run_program-answer.result short.0 c.run_program-answer.ensures)

pub returns : goal.returns
returns g c =
    hears-end _ _ c.args.work.now c.run_program-answer.result c.in_ok-heard.heard c.outcome_of.result
    c.run_program-answer.ensures
    c.in_ok-heard.ensures c.outcome_of.ensures
