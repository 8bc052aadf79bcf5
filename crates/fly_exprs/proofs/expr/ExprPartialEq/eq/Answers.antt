use Rattle.fly_types.proofs.SameLemmas.{answers_equal}
use Rattle.fly_exprs.specs.contracts.expr.Expr as expr
use Rattle.fly_exprs.specs.Same.{same_expr}
use Rattle.fly_exprs.proofs.expr.ExprPartialEq.eq.Goals as goal

pub returns-clause-value : goal.returns-clause-value
unfolding same_expr
returns-clause-value c = answers_equal expr.the_row.coded _ _ _ c.is_same.ensures
