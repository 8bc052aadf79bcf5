-- What holds of faults and of truth, as laws over the definitions.
use Rattle.std.specs.Prelude.{◌≡◌, ◌↔◌, ℕ, ◌+◌, ◌<◌, ◌⊎◌, ℤ, ◌<ℤ◌, Bool, not, cond, [], Some}
use Rattle.std.specs.declared.cmp.Ordering.TheVariants.{Less}
use Rattle.fly_types.specs.declared.text.Text.{Text}
use Rattle.fly_types.specs.declared.kinds.Simple.{Simple}
use Rattle.fly_types.specs.declared.literals.Literal.TheOpen.{Literal-F}
use Rattle.fly_types.specs.declared.literals.LiteralMap.{LiteralMap}
use Rattle.fly_types.specs.Sound.{IsInstant}
use Rattle.fly_exprs.specs.declared.expr.Comparison.{Comparison}
use Rattle.fly_exprs.specs.declared.expr.Comparison.TheVariants as comparison
use Rattle.fly_exprs.specs.declared.expr.Operand.{Operand}
use Rattle.fly_exprs.specs.declared.expr.Expr.{Expr}
use Rattle.fly_exprs.specs.Faults.{Typing, literal_types, comparison_faults, faults_of}
use Rattle.fly_exprs.specs.TruthValue.{order_of, comparison_truth}

-- the comparison that is true exactly where this one is not
abbrev pub opposite : Comparison → Comparison
opposite comparison.Eq = comparison.Neq
opposite comparison.Neq = comparison.Eq
opposite comparison.Gt = comparison.Lte
opposite comparison.Gte = comparison.Lt
opposite comparison.Lt = comparison.Gte
opposite comparison.Lte = comparison.Gt

-- where a comparison has no fault, its opposite answers the opposite
abbrev pub OppositesDiffer : Type 0
OppositesDiffer = (inputs : LiteralMap) (c : Comparison) (left right : Operand) → comparison_faults (literal_types inputs) c left right ≡ []
    → comparison_truth inputs (opposite c) left right ≡ not (comparison_truth inputs c left right)

-- one of three is true, and the others are not
abbrev pub IsOneOfThree : Bool → Bool → Bool → Type 0
IsOneOfThree a b c = cond a 1 0 + cond b 1 0 + cond c 1 0 ≡ 1

-- of two values that may be ordered the first is less, or they are equal, or it is greater
abbrev pub IsTrichotomy : Type 0
IsTrichotomy = (inputs : LiteralMap) (left right : Operand) → comparison_faults (literal_types inputs) comparison.Lt left right ≡ []
    → IsOneOfThree (comparison_truth inputs comparison.Lt left right) (comparison_truth inputs comparison.Eq left right) (comparison_truth inputs comparison.Gt left right)

-- GT is LT of the operands the other way round
abbrev pub GreaterIsLessBack : Type 0
GreaterIsLessBack = (inputs : LiteralMap) (left right : Operand) → comparison_truth inputs comparison.Gt left right ≡ comparison_truth inputs comparison.Lt right left

-- whole numbers are ordered as numbers
abbrev pub IntegersByValue : Type 0
IntegersByValue = (a b : ℤ) → (order_of (Literal-F.Integer a) (Literal-F.Integer b) ≡ Some Less) ↔ (a <ℤ b)

-- the earlier moment is that of the lesser second, and in one second that of the lesser nanosecond
abbrev pub MomentsInOrder : Type 0
MomentsInOrder = (s t : ℤ) (n m : ℕ) → IsInstant s n → IsInstant t m
    → (order_of (Literal-F.Datetime s n) (Literal-F.Datetime t m) ≡ Some Less) ↔ ((s <ℤ t) ⊎ ((s ≡ t) × (n < m)))

-- an expression without a fault has none where each variable keeps its type
abbrev pub FaultlessStays : Type 0
FaultlessStays = (types others : Typing) (e : Expr) → ((name : Text) (s : Simple) → types name ≡ Some s → others name ≡ Some s)
    → faults_of types e ≡ [] → faults_of others e ≡ []
