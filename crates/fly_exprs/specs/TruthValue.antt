-- The truth value of an expression over the values of its variables.
use Rattle.std.specs.Prelude.{ℤ, pos, ◌+ℤ◌, ◌*ℤ◌, Bool, ◌&&◌, ◌||◌, Option, Some, None}
use Rattle.std.specs.declared.cmp.Ordering.{Ordering}
use Rattle.std.specs.Ordering.{is_some_and, nat_cmp, int_cmp, bool_cmp, is_eq, is_ne, is_lt, is_le, is_gt, is_ge}
use Rattle.std.specs.Cmp.Lexicographic.{slice_cmp}
use Rattle.fly_types.specs.declared.literals.Literal.{Literal, out-Literal}
use Rattle.fly_types.specs.declared.literals.Literal.TheOpen.{Literal-F}
use Rattle.fly_types.specs.declared.literals.LiteralMap.{LiteralMap}
use Rattle.fly_types.specs.Layer.{LiteralLayer}
use Rattle.fly_exprs.specs.declared.expr.Comparison.{Comparison}
use Rattle.fly_exprs.specs.declared.expr.Comparison.TheVariants as comparison
use Rattle.fly_exprs.specs.declared.expr.Conjunction.TheVariants as conjunction
use Rattle.fly_exprs.specs.declared.expr.Operand.{Operand}
use Rattle.fly_exprs.specs.declared.expr.Operand.TheVariants as operand
use Rattle.fly_exprs.specs.declared.expr.Expr.{Expr}
use Rattle.fly_exprs.specs.declared.expr.Expr.TheOpen.{Expr-F}
use Rattle.fly_exprs.specs.declared.expr.Expr.TheFolds.{fold-Expr}
use Rattle.fly_types.specs.Lookup.{value_of}

-- a date-time or a duration as a count of nanoseconds
abbrev pub nanoseconds : ℤ → ℤ → ℤ
nanoseconds seconds nanos = (seconds *ℤ pos 1000000000) +ℤ nanos

-- how two values of one primitive type stand by value, texts by their bytes; None for values of two types, or of another one
abbrev pub order_of : LiteralLayer → LiteralLayer → Option Ordering
order_of (Literal-F.Integer a) (Literal-F.Integer b) = Some (int_cmp a b)
order_of (Literal-F.Text a) (Literal-F.Text b) = Some (slice_cmp nat_cmp a b)
order_of (Literal-F.Boolean a) (Literal-F.Boolean b) = Some (bool_cmp a b)
order_of (Literal-F.Datetime s n) (Literal-F.Datetime t m) = Some (int_cmp (nanoseconds s (pos n)) (nanoseconds t (pos m)))
order_of (Literal-F.Duration s n) (Literal-F.Duration t m) = Some (int_cmp (nanoseconds s n) (nanoseconds t m))
order_of _ _ = None

-- whether values that stand so make the comparison true
abbrev pub admits : Comparison → Ordering → Bool
admits comparison.Eq order = is_eq order
admits comparison.Neq order = is_ne order
admits comparison.Gt order = is_gt order
admits comparison.Gte order = is_ge order
admits comparison.Lt order = is_lt order
admits comparison.Lte order = is_le order

-- the literal of an operand: for a variable that under its name
abbrev pub operand_value : LiteralMap → Operand → Option Literal
operand_value inputs (operand.Value literal) = Some literal
operand_value inputs (operand.Var name) = value_of inputs.entries name

-- how the values of two operands stand
abbrev pub value_order : Option Literal → Option Literal → Option Ordering
value_order (Some a) (Some b) = order_of (out-Literal a) (out-Literal b)
value_order _ _ = None

-- whether the comparison is true of the values of its operands
abbrev pub comparison_truth : LiteralMap → Comparison → Operand → Operand → Bool
comparison_truth inputs c left right = is_some_and (admits c) (value_order (operand_value inputs left) (operand_value inputs right))

-- AND is true where both sides are, and OR where one is
abbrev pub truth_by : LiteralMap → Expr-F Bool → Bool
truth_by inputs (Expr-F.Compare c left right) = comparison_truth inputs c left right
truth_by inputs (Expr-F.Join conjunction.And left right) = left && right
truth_by inputs (Expr-F.Join conjunction.Or left right) = left || right

-- whether the expression is true
abbrev pub truth_of : LiteralMap → Expr → Bool
truth_of inputs = fold-Expr Bool (truth_by inputs)
