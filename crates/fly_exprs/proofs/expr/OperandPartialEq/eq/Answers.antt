use Rattle.fly_types.proofs.SameLemmas.{answers_equal}
use Rattle.fly_exprs.specs.contracts.expr.Operand as operand
use Rattle.fly_exprs.specs.Same.{same_operand}
use Rattle.fly_exprs.proofs.expr.OperandPartialEq.eq.Goals as goal

pub returns-clause-value : goal.returns-clause-value
unfolding same_operand
returns-clause-value c = answers_equal operand.the_row.coded _ _ _ c.is_same.ensures
