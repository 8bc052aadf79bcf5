use Rattle.std.proofs.Common.{arith, ap}
use Rattle.fly_exprs.specs.Faults.{literal_types}
use Rattle.fly_exprs.specs.declared.expr.Expr.{size-Expr}
use Rattle.fly_exprs.proofs.FaultLemmas.{sides_faultless}
use Rattle.fly_exprs.proofs.SizeLemmas.{left_smaller, right_smaller}
use Rattle.fly_exprs.proofs.truth_value.+truth.Goals as goal

pub truth-left-requires : goal.truth-left-requires
truth-left-requires t c =
    let h = sides_faultless (literal_types c.args.inputs.now) _ _ _ _ c.in-Join.is c.requires.faultless in (
      omega (arith, left_smaller _ _ _ _ c.in-Join.is, ap size-Expr c.get.ensures, c.decreases),
      (c.requires.sorted, rw c.get.ensures h.0),
    )

pub truth-right-requires : goal.truth-right-requires
truth-right-requires t c =
    let h = sides_faultless (literal_types c.args.inputs.now) _ _ _ _ c.in-Join.is c.requires.faultless in (
      omega (arith, right_smaller _ _ _ _ c.in-Join.is, ap size-Expr c.get-in-Join.ensures, c.decreases),
      (c.requires.sorted, rw c.get-in-Join.ensures h.1),
    )
