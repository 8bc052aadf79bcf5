use mathlib.Core.Bool.{true≢false}
use Rattle.std.proofs.Common.{sym, ap, subst, ◌∙◌, ◌↔◌, IsTrue}
use Rattle.fly_exprs.specs.declared.expr.Expr.{Expr, out-Expr}
use Rattle.fly_exprs.specs.declared.expr.Expr.TheOpen.{Expr-F}
use Rattle.fly_exprs.specs.declared.expr.Expr.TheViews as view
use Rattle.fly_docs.specs.Form.{IsExprInForm}
use Rattle.fly_forms.proofs.ExprLayers.{answers_expr}
use Rattle.fly_forms.proofs.conditions.+is_expr_in_form.Goals as goal

pub returns-then-is_operand_in_form : goal.returns-then-is_operand_in_form
returns-then-is_operand_in_form t c =
    answers_expr c.args.expr.now (Expr-F.Compare _ c.in-Compare.left c.in-Compare.right)
    (ap out-Expr c.in-Compare.is ∙ view.outs-Compare _ _ _) (
      λ r. (
        c.is_operand_in_form.ensures.0 c.if-is_operand_in_form.true,
        c.is_operand_in_form-then-is_operand_in_form.ensures.0 r,
      ),
      λ h. c.is_operand_in_form-then-is_operand_in_form.ensures.1 h.1,
    )

pub returns-else-is_operand_in_form : goal.returns-else-is_operand_in_form
returns-else-is_operand_in_form t c =
    answers_expr c.args.expr.now (Expr-F.Compare _ c.in-Compare.left c.in-Compare.right)
    (ap out-Expr c.in-Compare.is ∙ view.outs-Compare _ _ _)
    (λ r. absurd (true≢false (sym r ∙ c.if-is_operand_in_form.false)), λ h. c.is_operand_in_form.ensures.1 h.0)

pub returns-then-is_expr_in_form : goal.returns-then-is_expr_in_form
returns-then-is_expr_in_form t c =
    let left = subst (λ (e : Expr). IsTrue c.is_expr_in_form.result ↔ IsExprInForm e) c.get.ensures
    c.is_expr_in_form.ensures in
    let right = subst (λ (e : Expr). IsTrue c.is_expr_in_form-then-is_expr_in_form.result ↔ IsExprInForm e)
    c.get-then-is_expr_in_form.ensures c.is_expr_in_form-then-is_expr_in_form.ensures in
    answers_expr c.args.expr.now (Expr-F.Join _ c.in-Join.left c.in-Join.right)
    (ap out-Expr c.in-Join.is ∙ view.outs-Join _ _ _)
    (λ r. (left.0 c.if-is_expr_in_form.true, right.0 r), λ h. right.1 h.1)

pub returns-else-is_expr_in_form : goal.returns-else-is_expr_in_form
returns-else-is_expr_in_form t c =
    let left = subst (λ (e : Expr). IsTrue c.is_expr_in_form.result ↔ IsExprInForm e) c.get.ensures
    c.is_expr_in_form.ensures in
    answers_expr c.args.expr.now (Expr-F.Join _ c.in-Join.left c.in-Join.right)
    (ap out-Expr c.in-Join.is ∙ view.outs-Join _ _ _)
    (λ r. absurd (true≢false (sym r ∙ c.if-is_expr_in_form.false)), λ h. left.1 h.0)
