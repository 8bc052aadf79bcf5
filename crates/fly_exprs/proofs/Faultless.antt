-- What follows where an expression has no fault: each operand has a value, and the values of a comparison stand in an order.
use Rattle.std.proofs.Common.{◌≡◌, if◌then◌else◌, List, [], ◌∷◌, ◌++◌, Option, Some, None, is_some, option_and_then, refl, ap}
use Rattle.std.specs.declared.cmp.Ordering.{Ordering}
use Rattle.fly_types.specs.declared.kinds.Simple.{Simple}
use Rattle.fly_types.specs.declared.literals.Literal.{Literal, out-Literal}
use Rattle.fly_types.specs.declared.literals.Literal.TheOpen.{Literal-F}
use Rattle.fly_types.specs.declared.literals.LiteralMap.{LiteralMap}
use Rattle.fly_types.specs.Layer.{LiteralLayer}
use Rattle.fly_types.specs.Membership.{simple_type}
use Rattle.fly_exprs.specs.declared.expr.Comparison.{Comparison}
use Rattle.fly_exprs.specs.declared.expr.Operand.{Operand}
use Rattle.fly_exprs.specs.declared.expr.Operand.TheVariants as operand
use Rattle.fly_exprs.specs.declared.faults.ExprFault.{ExprFault}
use Rattle.fly_exprs.specs.declared.faults.ExprFault.TheVariants as fault
use Rattle.fly_types.specs.Lookup.{value_of}
use Rattle.fly_exprs.specs.Faults.{Typing, literal_types, operand_faults, operand_type, type_faults, or_else, comparison_faults}
use Rattle.fly_exprs.specs.TruthValue.{order_of, operand_value, value_order}

some_fault : {X : Type 0} (f : ExprFault) → (f ∷ []) ≡ [] → X
some_fault f e = cc

pub empty-append : {X : Type 0} (xs ys : List X) → xs ++ ys ≡ [] → (xs ≡ []) × (ys ≡ [])
empty-append [] ys e = (refl, e)
empty-append (x ∷ xs) ys e = cc

pub empty-or_else : {X : Type 0} (xs ys : List X) → or_else xs ys ≡ [] → (xs ≡ []) × (ys ≡ [])
empty-or_else [] ys e = (refl, e)
empty-or_else (x ∷ xs) ys e = cc

-- where a comparison has no fault, neither have its operands and their types
pub record IsFaultless (types : Typing) (c : Comparison) (left right : Operand) : Type 0 where
  pub left_known : operand_faults types left ≡ []
  pub right_known : operand_faults types right ≡ []
  pub alike : type_faults c (operand_type types left) (operand_type types right) ≡ []

pub parts_faultless : (types : Typing) (c : Comparison) (left right : Operand) → comparison_faults types c left right ≡ [] → IsFaultless types c left right
parts_faultless types c left right e =
    let h = empty-or_else (operand_faults types left ++ operand_faults types right) (type_faults c (operand_type types left) (operand_type types right)) e in
    let g = empty-append (operand_faults types left) (operand_faults types right) h.0 in
    record { left_known = g.0; right_known = g.1; alike = h.1 }

abbrev type_under : Option Literal → Option Simple
type_under v = option_and_then (λ literal. simple_type (out-Literal literal)) v

under_name : (v : Option Literal) → (if is_some (type_under v) then [] else (fault.UnknownVar ∷ [])) ≡ [] → (l : Literal) × (v ≡ Some l)
under_name None e = some_fault fault.UnknownVar e
under_name (Some l) e = (l, refl)

-- an operand without a fault has a value
pub has_value : (inputs : LiteralMap) (o : Operand) → operand_faults (literal_types inputs) o ≡ [] → (l : Literal) × (operand_value inputs o ≡ Some l)
has_value inputs (operand.Value literal) e = (literal, refl)
has_value inputs (operand.Var name) e = under_name (value_of inputs.entries name) e

type_of_value : (inputs : LiteralMap) (o : Operand) (l : Literal) → operand_value inputs o ≡ Some l → operand_type (literal_types inputs) o ≡ simple_type (out-Literal l)
type_of_value inputs (operand.Value literal) l e = let same : literal ≡ l = cc in ap (λ x. simple_type (out-Literal x)) same
type_of_value inputs (operand.Var name) l e = ap type_under e

-- values of one primitive type stand in an order
in_order : (c : Comparison) (a b : LiteralLayer) → type_faults c (simple_type a) (simple_type b) ≡ [] → (o : Ordering) × (order_of a b ≡ Some o)
in_order c (Literal-F.Integer a) (Literal-F.Integer b) e = (_, refl)
in_order c (Literal-F.Text a) (Literal-F.Text b) e = (_, refl)
in_order c (Literal-F.Boolean a) (Literal-F.Boolean b) e = (_, refl)
in_order c (Literal-F.Datetime s n) (Literal-F.Datetime t m) e = (_, refl)
in_order c (Literal-F.Duration s n) (Literal-F.Duration t m) e = (_, refl)
in_order c _ _ e = some_fault fault.MixedTypes e

-- the values of a comparison without a fault stand in an order
pub has_order : (inputs : LiteralMap) (c : Comparison) (left right : Operand) → comparison_faults (literal_types inputs) c left right ≡ []
    → (o : Ordering) × (value_order (operand_value inputs left) (operand_value inputs right) ≡ Some o)
has_order inputs c left right e =
    let h = parts_faultless (literal_types inputs) c left right e in
    let a = has_value inputs left h.left_known in
    let b = has_value inputs right h.right_known in
    let p = type_of_value inputs left a.0 a.1 in
    let q = type_of_value inputs right b.0 b.1 in
    let alike : type_faults c (simple_type (out-Literal a.0)) (simple_type (out-Literal b.0)) ≡ [] = rw (← p, ← q) h.alike in
    let o = in_order c (out-Literal a.0) (out-Literal b.0) alike in
    (o.0, rw (a.1, b.1) o.1)
