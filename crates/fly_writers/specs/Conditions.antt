-- The JSON of conditions, by `core/condition.proto` of flyteidl. The first name of an enum is left out.
use Rattle.std.specs.Prelude.{ℕ, List, [], ◌∷◌, Option, Some, None, codes}
use Rattle.serde_json.specs.Data.{Data, string}
use Rattle.fly_exprs.specs.declared.expr.Comparison.{Comparison}
use Rattle.fly_exprs.specs.declared.expr.Comparison.TheVariants as comparisons
use Rattle.fly_exprs.specs.declared.expr.Conjunction.{Conjunction}
use Rattle.fly_exprs.specs.declared.expr.Conjunction.TheVariants as conjunctions
use Rattle.fly_exprs.specs.declared.expr.Operand.{Operand}
use Rattle.fly_exprs.specs.declared.expr.Operand.TheVariants as operands
use Rattle.fly_exprs.specs.declared.expr.Expr.{Expr}
use Rattle.fly_exprs.specs.declared.expr.Expr.TheOpen.{Expr-F}
use Rattle.fly_exprs.specs.declared.expr.Expr.TheFolds.{fold-Expr}
use Rattle.fly_writers.specs.Json.{Fields, message}
use Rattle.fly_writers.specs.Literals.{primitive_json}

-- the names of the enum Operator of ComparisonExpression
abbrev pub comparison_name : Comparison → Option Data
comparison_name comparisons.Eq = None
comparison_name comparisons.Neq = Some (string (codes "NEQ"))
comparison_name comparisons.Gt = Some (string (codes "GT"))
comparison_name comparisons.Gte = Some (string (codes "GTE"))
comparison_name comparisons.Lt = Some (string (codes "LT"))
comparison_name comparisons.Lte = Some (string (codes "LTE"))

-- the names of the enum LogicalOperator of ConjunctionExpression
abbrev pub conjunction_name : Conjunction → Option Data
conjunction_name conjunctions.And = None
conjunction_name conjunctions.Or = Some (string (codes "OR"))

-- Operand. A value is written as a primitive.
abbrev pub operand_fields : Operand → Fields
operand_fields (operands.Value literal) = (codes "primitive", Some (primitive_json literal)) ∷ []
operand_fields (operands.Var name) = (codes "var", Some (string name)) ∷ []

abbrev pub operand_json : Operand → Data
operand_json operand = message (operand_fields operand)

-- ComparisonExpression
abbrev pub comparison_fields : Comparison → Operand → Operand → Fields
comparison_fields comparison left right =
    (codes "operator", comparison_name comparison) ∷
    (codes "leftValue", Some (operand_json left)) ∷
    (codes "rightValue", Some (operand_json right)) ∷ []

-- ConjunctionExpression
abbrev pub conjunction_fields : Conjunction → Data → Data → Fields
conjunction_fields conjunction left right =
    (codes "operator", conjunction_name conjunction) ∷
    (codes "leftExpression", Some left) ∷
    (codes "rightExpression", Some right) ∷ []

-- BooleanExpression, with the JSON of each part in its place
abbrev pub expr_fields_by : Expr-F Data → Fields
expr_fields_by (Expr-F.Compare comparison left right) =
    (codes "comparison", Some (message (comparison_fields comparison left right))) ∷ []
expr_fields_by (Expr-F.Join conjunction left right) =
    (codes "conjunction", Some (message (conjunction_fields conjunction left right))) ∷ []

abbrev pub expr_json_by : Expr-F Data → Data
expr_json_by layer = message (expr_fields_by layer)

unfoldable pub expr_json : Expr → Data
expr_json = fold-Expr Data expr_json_by
