-- What is wrong with an expression, flyteidl's `BooleanExpression` (core/condition.proto), over variables of known types.
use Rattle.std.specs.Prelude.{Bool, true, false, if◌then◌else◌, List, [], ◌∷◌, ◌++◌, Option, Some, is_some, option_and_then}
use Rattle.fly_types.specs.declared.text.Text.{Text}
use Rattle.fly_types.specs.declared.kinds.Simple.{Simple}
use Rattle.fly_types.specs.declared.kinds.Simple.TheVariants as simple
use Rattle.fly_types.specs.declared.literals.Literal.{out-Literal}
use Rattle.fly_types.specs.declared.literals.LiteralMap.{LiteralMap}
use Rattle.fly_types.specs.Membership.{simple_type}
use Rattle.fly_exprs.specs.declared.expr.Comparison.{Comparison}
use Rattle.fly_exprs.specs.declared.expr.Comparison.TheVariants as comparison
use Rattle.fly_exprs.specs.declared.expr.Operand.{Operand}
use Rattle.fly_exprs.specs.declared.expr.Operand.TheVariants as operand
use Rattle.fly_exprs.specs.declared.expr.Expr.{Expr}
use Rattle.fly_exprs.specs.declared.expr.Expr.TheOpen.{Expr-F}
use Rattle.fly_exprs.specs.declared.expr.Expr.TheFolds.{fold-Expr}
use Rattle.fly_exprs.specs.declared.faults.ExprFault.{ExprFault}
use Rattle.fly_exprs.specs.declared.faults.ExprFault.TheVariants as fault
use Rattle.fly_types.specs.Lookup.{value_of}

-- the type of each variable; None where no variable has the name
abbrev pub Typing : Type 0
Typing = Text → Option Simple

-- each name has the type of the literal under it
abbrev pub literal_types : LiteralMap → Typing
literal_types inputs name = option_and_then (λ literal. simple_type (out-Literal literal)) (value_of inputs.entries name)

-- a name that no variable has is a fault
abbrev pub operand_faults : Typing → Operand → List ExprFault
operand_faults types (operand.Value literal) = []
operand_faults types (operand.Var name) = if is_some (types name) then [] else (fault.UnknownVar ∷ [])

-- the simple type of an operand, where it has one
abbrev pub operand_type : Typing → Operand → Option Simple
operand_type types (operand.Value literal) = simple_type (out-Literal literal)
operand_type types (operand.Var name) = types name

-- GT, GTE, LT and LTE
abbrev pub is_order : Comparison → Bool
is_order comparison.Eq = false
is_order comparison.Neq = false
is_order _ = true

-- two operands are of one primitive type, and truth values have no order
abbrev pub type_faults : Comparison → Option Simple → Option Simple → List ExprFault
type_faults c (Some simple.Integer) (Some simple.Integer) = []
type_faults c (Some simple.Text) (Some simple.Text) = []
type_faults c (Some simple.Datetime) (Some simple.Datetime) = []
type_faults c (Some simple.Duration) (Some simple.Duration) = []
type_faults c (Some simple.Boolean) (Some simple.Boolean) = if is_order c then (fault.OrderOnBoolean ∷ []) else []
type_faults c _ _ = fault.MixedTypes ∷ []

-- the first list, or the second where the first has nothing
abbrev pub or_else : {X : Type 0} → List X → List X → List X
or_else [] later = later
or_else (x ∷ xs) later = x ∷ xs

-- the faults of a comparison: those of its operands, and where both are known those of their types
abbrev pub comparison_faults : Typing → Comparison → Operand → Operand → List ExprFault
comparison_faults types c left right =
    or_else (operand_faults types left ++ operand_faults types right) (type_faults c (operand_type types left) (operand_type types right))

-- the faults of the left side of a conjunction come before those of the right
abbrev pub faults_by : Typing → Expr-F (List ExprFault) → List ExprFault
faults_by types (Expr-F.Compare c left right) = comparison_faults types c left right
faults_by types (Expr-F.Join conjunction left right) = left ++ right

-- all faults of an expression, in the order of its text
abbrev pub faults_of : Typing → Expr → List ExprFault
faults_of types = fold-Expr (List ExprFault) (faults_by types)
