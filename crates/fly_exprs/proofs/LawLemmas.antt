-- The laws of faults and of truth.
use Rattle.std.proofs.Common.{◌≡◌, ◌<ℤ◌, ℤ, pos, not, List, [], ◌∷◌, ◌++◌, Option, Some, None, is_some, if◌then◌else◌, option_map, refl, sym, ◌∙◌, ap, subst}
use Rattle.std.specs.declared.cmp.Ordering.{Ordering}
use Rattle.std.specs.declared.cmp.Ordering.TheVariants.{Less, Equal, Greater}
use Rattle.std.specs.Ordering.{is_some_and, is_lt, is_eq, is_gt, ordering_reverse, int_cmp, MatchOrdering}
use Rattle.std.specs.Cmp.{int_cmp_is, int_ranks, bool_cmp_total}
use Rattle.std.proofs.lemmas.Cmp.{int_cmp_total, nat_list_cmp_total}
use Rattle.fly_types.specs.declared.text.Text.{Text}
use Rattle.fly_types.specs.declared.kinds.Simple.{Simple}
use Rattle.fly_types.specs.declared.literals.Literal.{Literal, out-Literal}
use Rattle.fly_types.specs.declared.literals.Literal.TheOpen.{Literal-F}
use Rattle.fly_types.specs.Layer.{LiteralLayer}
use Rattle.fly_exprs.specs.declared.expr.Comparison.{Comparison}
use Rattle.fly_exprs.specs.declared.expr.Comparison.TheVariants as comparison
use Rattle.fly_exprs.specs.declared.expr.Operand.{Operand}
use Rattle.fly_exprs.specs.declared.expr.Operand.TheVariants as operand
use Rattle.fly_exprs.specs.declared.expr.Expr.{Expr, roll-Expr}
use Rattle.fly_exprs.specs.declared.expr.Expr.TheOpen.{Expr-F}
use Rattle.fly_exprs.specs.declared.expr.Expr.TheFolds.{ind-Expr, map-Expr, fold-roll-Expr}
use Rattle.fly_exprs.specs.declared.faults.ExprFault.{ExprFault}
use Rattle.fly_exprs.specs.declared.faults.ExprFault.TheVariants as fault
use Rattle.fly_exprs.specs.Faults.{Typing, operand_faults, operand_type, type_faults, or_else, comparison_faults, faults_by, faults_of}
use Rattle.fly_exprs.specs.TruthValue.{nanoseconds, order_of, admits, operand_value, value_order}
use Rattle.fly_exprs.specs.Laws.{opposite, OppositesDiffer, IsOneOfThree, IsTrichotomy, GreaterIsLessBack, IntegersByValue, FaultlessStays}
use Rattle.fly_exprs.proofs.Faultless.{empty-append, parts_faultless, has_order}

opposite_admits : (c : Comparison) (o : Ordering) → admits (opposite c) o ≡ not (admits c o)
opposite_admits comparison.Eq Less = refl
opposite_admits comparison.Eq Equal = refl
opposite_admits comparison.Eq Greater = refl
opposite_admits comparison.Neq Less = refl
opposite_admits comparison.Neq Equal = refl
opposite_admits comparison.Neq Greater = refl
opposite_admits comparison.Gt Less = refl
opposite_admits comparison.Gt Equal = refl
opposite_admits comparison.Gt Greater = refl
opposite_admits comparison.Gte Less = refl
opposite_admits comparison.Gte Equal = refl
opposite_admits comparison.Gte Greater = refl
opposite_admits comparison.Lt Less = refl
opposite_admits comparison.Lt Equal = refl
opposite_admits comparison.Lt Greater = refl
opposite_admits comparison.Lte Less = refl
opposite_admits comparison.Lte Equal = refl
opposite_admits comparison.Lte Greater = refl

pub opposites_differ : OppositesDiffer
opposites_differ inputs c left right e =
    let o = has_order inputs c left right e in
    ap (is_some_and (admits (opposite c))) o.1 ∙ opposite_admits c o.0 ∙ sym (ap (λ v. not (is_some_and (admits c) v)) o.1)

one_of_three : (o : Ordering) → IsOneOfThree (is_lt o) (is_eq o) (is_gt o)
one_of_three Less = refl
one_of_three Equal = refl
one_of_three Greater = refl

pub trichotomy : IsTrichotomy
trichotomy inputs left right e =
    let o = has_order inputs comparison.Lt left right e in
    subst (λ (v : Option Ordering). IsOneOfThree (is_some_and is_lt v) (is_some_and is_eq v) (is_some_and is_gt v)) (sym o.1) (one_of_three o.0)

order_back : (a b : LiteralLayer) → order_of a b ≡ option_map ordering_reverse (order_of b a)
order_back (Literal-F.Integer a) (Literal-F.Integer b) = ap Some (int_cmp_total.antisymm a b)
order_back (Literal-F.Text a) (Literal-F.Text b) = ap Some (nat_list_cmp_total.antisymm a b)
order_back (Literal-F.Boolean a) (Literal-F.Boolean b) = ap Some (bool_cmp_total.antisymm a b)
order_back (Literal-F.Datetime s n) (Literal-F.Datetime t m) =
    ap Some (int_cmp_total.antisymm (nanoseconds s (pos n)) (nanoseconds t (pos m)))
order_back (Literal-F.Duration s n) (Literal-F.Duration t m) =
    ap Some (int_cmp_total.antisymm (nanoseconds s n) (nanoseconds t m))
order_back _ (Literal-F.Integer b) = refl
order_back _ (Literal-F.Text b) = refl
order_back _ (Literal-F.Boolean b) = refl
order_back _ (Literal-F.Datetime t m) = refl
order_back _ (Literal-F.Duration t m) = refl
order_back _ _ = refl

value_back : (u v : Option Literal) → value_order u v ≡ option_map ordering_reverse (value_order v u)
value_back (Some a) (Some b) = order_back (out-Literal a) (out-Literal b)
value_back (Some a) None = refl
value_back None (Some b) = refl
value_back None None = refl

greater_back : (v : Option Ordering) → is_some_and is_gt (option_map ordering_reverse v) ≡ is_some_and is_lt v
greater_back None = refl
greater_back (Some Less) = refl
greater_back (Some Equal) = refl
greater_back (Some Greater) = refl

pub greater_is_less_back : GreaterIsLessBack
greater_is_less_back inputs left right =
    ap (is_some_and is_gt) (value_back (operand_value inputs left) (operand_value inputs right))
    ∙ greater_back (value_order (operand_value inputs right) (operand_value inputs left))

below : (a b : ℤ) → int_cmp a b ≡ Less → a <ℤ b
below a b e = subst (λ (r : Ordering). MatchOrdering r (a <ℤ b) (a ≡ b) (b <ℤ a)) e (int_ranks a b)

pub integers_by_value : IntegersByValue
integers_by_value a b = (
  λ e. let p : int_cmp a b ≡ Less = cc in below a b p,
  λ h. ap Some (sym (int_cmp_is a b Less h)),
)

kept_name : (v w : Option Simple) → ((s : Simple) → v ≡ Some s → w ≡ Some s) → (if is_some v then [] else (fault.UnknownVar ∷ [])) ≡ [] → w ≡ v
kept_name None w h e = cc
kept_name (Some s) w h e = h s refl

module _ (types others : Typing) (kept : (name : Text) (s : Simple) → types name ≡ Some s → others name ≡ Some s) where
  kept_known : (o : Operand) → operand_faults types o ≡ [] → operand_faults others o ≡ []
  kept_known (operand.Value literal) e = refl
  kept_known (operand.Var name) e =
      ap (λ (v : Option Simple). if is_some v then [] else (fault.UnknownVar ∷ [])) (kept_name (types name) (others name) (kept name) e) ∙ e

  kept_type : (o : Operand) → operand_faults types o ≡ [] → operand_type others o ≡ operand_type types o
  kept_type (operand.Value literal) e = refl
  kept_type (operand.Var name) e = kept_name (types name) (others name) (kept name) e

  kept_comparison : (c : Comparison) (left right : Operand) → comparison_faults types c left right ≡ [] → comparison_faults others c left right ≡ []
  kept_comparison c left right e =
      let h = parts_faultless types c left right e in
      ap (λ (fs : List ExprFault). or_else (fs ++ operand_faults others right) (type_faults c (operand_type others left) (operand_type others right)))
      (kept_known left h.left_known)
      ∙ ap (λ (fs : List ExprFault). or_else fs (type_faults c (operand_type others left) (operand_type others right))) (kept_known right h.right_known)
      ∙ ap (λ (s : Option Simple). type_faults c s (operand_type others right)) (kept_type left h.left_known)
      ∙ ap (λ (s : Option Simple). type_faults c (operand_type types left) s) (kept_type right h.right_known)
      ∙ h.alike

  abbrev Stays : Expr → Type 0
  Stays e = faults_of types e ≡ [] → faults_of others e ≡ []

  abbrev WithStay : Type 0
  WithStay = (e : Expr) × Stays e

  layer_stays : (x : Expr-F WithStay) → Stays (roll-Expr (map-Expr WithStay Expr (λ e. e.0) x))
  layer_stays (Expr-F.Compare c left right) e =
      let before : comparison_faults types c left right ≡ [] = sym (fold-roll-Expr (List ExprFault) (faults_by types) (Expr-F.Compare c left right)) ∙ e in
      fold-roll-Expr (List ExprFault) (faults_by others) (Expr-F.Compare c left right) ∙ kept_comparison c left right before
  layer_stays (Expr-F.Join j left right) e =
      let join : Expr-F Expr = Expr-F.Join j left.0 right.0 in
      let h = empty-append (faults_of types left.0) (faults_of types right.0) (sym (fold-roll-Expr (List ExprFault) (faults_by types) join) ∙ e) in
      fold-roll-Expr (List ExprFault) (faults_by others) join
      ∙ ap (λ (fs : List ExprFault). fs ++ faults_of others right.0) (left.1 h.0) ∙ right.1 h.1

  stays : (e : Expr) → Stays e
  stays = ind-Expr Stays (λ x y is. subst (λ z. Stays (roll-Expr z)) is (layer_stays y))

pub faultless_stays : FaultlessStays
faultless_stays types others e kept = stays types others kept e
