-- The faults of a conjunction, and the first of them.
use Rattle.std.proofs.Common.{◌≡◌, List, [], ◌∷◌, ◌++◌, Some, None, slice_get, refl, sym, ◌∙◌, ap}
use Rattle.fly_exprs.specs.declared.expr.Conjunction.{Conjunction}
use Rattle.fly_exprs.specs.declared.expr.Expr.{Expr}
use Rattle.fly_exprs.specs.declared.expr.Expr.TheOpen.{Expr-F}
use Rattle.fly_exprs.specs.declared.expr.Expr.TheViews as view
use Rattle.fly_exprs.specs.declared.expr.Expr.TheFolds.{fold-roll-Expr}
use Rattle.fly_exprs.specs.declared.faults.ExprFault.{ExprFault}
use Rattle.fly_exprs.specs.Faults.{Typing, faults_by, faults_of}
use Rattle.fly_exprs.proofs.Faultless.{empty-append}

pub faults_of-Join : (types : Typing) (j : Conjunction) (l r : Expr) → faults_of types (view.Join j l r) ≡ faults_of types l ++ faults_of types r
faults_of-Join types j l r = sym (ap (faults_of types) (view.rolls-Join j l r)) ∙ fold-roll-Expr (List ExprFault) (faults_by types) (Expr-F.Join j l r)

first-append : {X : Type 0} (xs ys : List X) (x : X) → Some x ≡ slice_get xs 0 → Some x ≡ slice_get (xs ++ ys) 0
first-append [] ys x e = cc
first-append (y ∷ xs) ys x e = e

first-append_none : {X : Type 0} (xs ys : List X) → None ≡ slice_get xs 0 → slice_get ys 0 ≡ slice_get (xs ++ ys) 0
first-append_none [] ys e = refl
first-append_none (x ∷ xs) ys e = cc

-- the first fault of a conjunction is that of its left side, where it has one
pub left_first : (types : Typing) (e : Expr) (j : Conjunction) (l r : Expr) (f : ExprFault) → e ≡ view.Join j l r
    → Some f ≡ slice_get (faults_of types l) 0 → Some f ≡ slice_get (faults_of types e) 0
left_first types e j l r f is h =
    first-append (faults_of types l) (faults_of types r) f h ∙ ap (λ fs. slice_get fs 0) (sym (ap (faults_of types) is ∙ faults_of-Join types j l r))

-- and else that of its right side
pub right_first : (types : Typing) (e : Expr) (j : Conjunction) (l r : Expr) → e ≡ view.Join j l r
    → None ≡ slice_get (faults_of types l) 0 → slice_get (faults_of types r) 0 ≡ slice_get (faults_of types e) 0
right_first types e j l r is h =
    first-append_none (faults_of types l) (faults_of types r) h ∙ ap (λ fs. slice_get fs 0) (sym (ap (faults_of types) is ∙ faults_of-Join types j l r))

pub sides_faultless : (types : Typing) (e : Expr) (j : Conjunction) (l r : Expr) → e ≡ view.Join j l r → faults_of types e ≡ []
    → (faults_of types l ≡ []) × (faults_of types r ≡ [])
sides_faultless types e j l r is none =
    empty-append (faults_of types l) (faults_of types r) (sym (ap (faults_of types) is ∙ faults_of-Join types j l r) ∙ none)
