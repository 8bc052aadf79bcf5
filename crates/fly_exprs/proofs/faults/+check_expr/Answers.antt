use Rattle.std.proofs.Common.{Some, ◌∙◌, ap}
use Rattle.std.specs.Result.{result_err}
use Rattle.std.proofs.lemmas.Result.{err_from_is_err_and}
use Rattle.fly_types.specs.Lookup.{value_of}
use Rattle.fly_exprs.proofs.FaultLemmas.{left_first, right_first}
use Rattle.fly_exprs.proofs.faults.+check_expr.Goals as goal

pub returns-in_err-check_expr-in-Join : goal.returns-in_err-check_expr-in-Join
returns-in_err-check_expr-in-Join t c =
    let p = err_from_is_err_and c.from_residual.result c.from_residual.ensures.1 in
    let h = rw c.get.ensures at c.in_err-check_expr-in-Join.ensures in
    ap result_err p.1 ∙ ap Some p.2 ∙ left_first (value_of c.args.vars.now) _ _ _ _ _ c.in-Join.is h

pub returns-in_ok-check_expr-in-Join : goal.returns-in_ok-check_expr-in-Join
returns-in_ok-check_expr-in-Join t c =
    let h = rw c.get.ensures at c.in_ok-check_expr-in-Join.ensures in
    let g = rw c.get-in-Join.ensures at c.check_expr-in-Join.ensures in
    g ∙ right_first (value_of c.args.vars.now) _ _ _ _ c.in-Join.is h
