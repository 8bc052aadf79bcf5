-- The sides of a conjunction are smaller than it.
use Rattle.std.proofs.Common.{◌≡◌, ◌+◌, ◌<◌, max, arith, ap}
use Rattle.fly_exprs.specs.declared.expr.Conjunction.{Conjunction}
use Rattle.fly_exprs.specs.declared.expr.Expr.{Expr, size-Expr}
use Rattle.fly_exprs.specs.declared.expr.Expr.TheViews as view

size-join : (j : Conjunction) (l r : Expr)
    → size-Expr (view.Join j l r) ≡ max 0 (max (size-Expr l) (max (size-Expr r) 0)) + 1
size-join j l r = view.sized-Join j l r

pub left_smaller : (e : Expr) (j : Conjunction) (l r : Expr) → e ≡ view.Join j l r → size-Expr l < size-Expr e
left_smaller e j l r is = omega (arith, ap size-Expr is, size-join j l r)

pub right_smaller : (e : Expr) (j : Conjunction) (l r : Expr) → e ≡ view.Join j l r → size-Expr r < size-Expr e
right_smaller e j l r is = omega (arith, ap size-Expr is, size-join j l r)
