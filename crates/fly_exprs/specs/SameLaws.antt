-- The tests of equality of operands and expressions are equivalences, as `PartialEq` and `Eq` want them.
use Rattle.std.specs.Cmp.{IsPartialEquivalence, IsEquivalence, partial_equiv_from_equiv}
use Rattle.fly_types.specs.Laws.{equal-laws}
use Rattle.fly_exprs.specs.contracts.expr.Expr as expr
use Rattle.fly_exprs.specs.contracts.expr.Operand as operand
use Rattle.fly_exprs.specs.Same.{same_operand, same_expr}

pub same_operand-laws : IsEquivalence same_operand
unfolding same_operand
same_operand-laws = equal-laws operand.the_row.coded

pub same_operand-partial_laws : IsPartialEquivalence same_operand
same_operand-partial_laws = partial_equiv_from_equiv same_operand-laws

pub same_expr-laws : IsEquivalence same_expr
unfolding same_expr
same_expr-laws = equal-laws expr.the_row.coded

pub same_expr-partial_laws : IsPartialEquivalence same_expr
same_expr-partial_laws = partial_equiv_from_equiv same_expr-laws
