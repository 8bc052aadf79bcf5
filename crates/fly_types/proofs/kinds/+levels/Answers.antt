use Rattle.std.proofs.Common.{◌≤◌, sym, ◌∙◌, arith}
use Rattle.fly_types.specs.Levels.{type_levels}
use Rattle.fly_types.proofs.Lists.{largest_at, largest_more}
use Rattle.fly_types.proofs.kinds.+levels.Goals as goal

pub have_at_most-returns-then-not-has_at_most : goal.have_at_most-returns-then-not-has_at_most
have_at_most-returns-then-not-has_at_most t c = (
  λ e. cc,
  λ le.
      let here : type_levels c.kind-item.result ≤ c.args.levels =
      omega (arith, le, largest_at type_levels _ _ c.kind-item.result c.loop-kind-test.true c.kind-item.is) in
      sym c.if-not-has_at_most.true ∙ c.has_at_most.ensures.1 here,
)

pub have_at_most-loop-kind-preserved : goal.have_at_most-loop-kind-preserved
have_at_most-loop-kind-preserved t c =
    largest_more type_levels _ _ c.kind-item.result _ c.loop-kind-test.true c.kind-item.is c.loop-kind.invariant (c.has_at_most.ensures.0 c.if-not-has_at_most.false)
