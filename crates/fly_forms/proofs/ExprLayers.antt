-- An expression is in form exactly where its layer is, and each part.
use Rattle.std.proofs.Common.{◌≡◌, ◌↔◌, refl, sym, ◌∙◌, ap, subst}
use Rattle.fly_exprs.specs.declared.expr.Expr.{Expr, roll-Expr, out-Expr}
use Rattle.fly_exprs.specs.declared.expr.Expr.TheOpen.{Expr-F}
use Rattle.fly_exprs.specs.declared.expr.Expr.TheViews.{roll-out-Expr}
use Rattle.fly_exprs.specs.declared.expr.Expr.TheFolds.{map-Expr, every_here-Expr, every_held-Expr, every_made-Expr}
use Rattle.fly_docs.specs.Form.{IsOperandInForm, IsExprLayerInForm, IsExprInForm}

abbrev WithForm : Type 0
WithForm = (e : Expr) × IsExprInForm e

-- the operands of a comparison, and the sides of a conjunction
abbrev pub IsWholeLayerInForm : Expr-F Expr → Type 0
IsWholeLayerInForm (Expr-F.Compare comparison left right) = IsOperandInForm left × IsOperandInForm right
IsWholeLayerInForm (Expr-F.Join conjunction left right) = IsExprInForm left × IsExprInForm right

whole : (y : Expr-F WithForm) → IsExprLayerInForm (map-Expr WithForm Expr (λ e. e.0) y)
    → IsWholeLayerInForm (map-Expr WithForm Expr (λ e. e.0) y)
whole (Expr-F.Compare comparison left right) h = h
whole (Expr-F.Join conjunction left right) h = (left.1, right.1)

layer : (e : Expr) → IsExprInForm e → IsWholeLayerInForm (out-Expr e)
layer e h =
    let held = every_held-Expr IsExprLayerInForm e h in
    subst IsWholeLayerInForm held.1 (whole held.0
    (subst IsExprLayerInForm (sym held.1) (every_here-Expr IsExprLayerInForm e h)))

rolled : (z : Expr-F Expr) → IsWholeLayerInForm z → IsExprInForm (roll-Expr z)
rolled (Expr-F.Compare comparison left right) h =
    every_made-Expr IsExprLayerInForm (Expr-F.Compare comparison left right) (Expr-F.Compare comparison left right)
    refl h
rolled (Expr-F.Join conjunction left right) h =
    every_made-Expr IsExprLayerInForm (Expr-F.Join conjunction left right)
    (Expr-F.Join conjunction (left, h.0) (right, h.1)) refl tt

-- what an answer says of the layer it says of the expression
pub answers_expr : {R : Type 0} (e : Expr) (z : Expr-F Expr) → out-Expr e ≡ z → (R ↔ IsWholeLayerInForm z)
    → (R ↔ IsExprInForm e)
answers_expr {R} e z is h = (
  λ r. subst IsExprInForm (ap roll-Expr (sym is) ∙ roll-out-Expr e) (rolled z (h.0 r)),
  λ form. h.1 (subst IsWholeLayerInForm is (layer e form)),
)
