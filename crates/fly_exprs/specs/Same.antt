-- What `==` answers on operands and expressions: whether the two are one.
use Rattle.std.specs.Prelude.{Bool}
use Rattle.fly_types.specs.Same.{equal}
use Rattle.fly_exprs.specs.declared.expr.Expr.{Expr}
use Rattle.fly_exprs.specs.declared.expr.Operand.{Operand}
use Rattle.fly_exprs.specs.contracts.expr.Expr as expr
use Rattle.fly_exprs.specs.contracts.expr.Operand as operand

-- whether two operands are one
unfoldable pub same_operand : Operand → Operand → Bool
same_operand = equal operand.the_row.coded

-- whether two expressions are one
unfoldable pub same_expr : Expr → Expr → Bool
same_expr = equal expr.the_row.coded
