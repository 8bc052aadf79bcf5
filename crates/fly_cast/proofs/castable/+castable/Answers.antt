use Rattle.std.proofs.Common.{arith, sym, ◌∙◌}
use Rattle.fly_cast.specs.Castable.{is_castable}
use Rattle.fly_cast.proofs.Casts.{is_castable-same, is_castable-differ}
use Rattle.fly_cast.proofs.Levels.{variant-levels}
use Rattle.fly_cast.proofs.Lists.{two_pass, some_copied}
use Rattle.fly_cast.proofs.castable.+castable.Goals as goal

pub is_castable-returns-then-is_same : goal.is_castable-returns-then-is_same
is_castable-returns-then-is_same t c = is_castable-same _ _ _ c.is_same.ensures c.if-is_same.true

pub is_castable-returns-else-is_same : goal.is_castable-returns-else-is_same
is_castable-returns-else-is_same t c =
    is_castable-differ _ _ _ _ c.is_same.ensures c.if-is_same.false c.do_forms_cast.ensures

pub do_all_cast-is_castable-requires : goal.do_all_cast-is_castable-requires
do_all_cast-is_castable-requires t c = (
  omega (
    arith,
    variant-levels c.args.variants.now _ c.variant-item.result c.loop-variant-test.true
        c.variant-item.is,
  ),
  tt,
)

pub only_taker-is_castable-requires : goal.only_taker-is_castable-requires
only_taker-is_castable-requires t c = (
  omega (
    arith,
    variant-levels c.args.variants.now _ c.variant-item.result c.loop-variant-test.true
        c.variant-item.is,
  ),
  tt,
)

pub only_taker-returns-then-is_some : goal.only_taker-returns-then-is_some
only_taker-returns-then-is_some t c =
    let one = some_copied c.loop-variant.taker (sym c.is_some.ensures ∙ c.if-is_some.true) in
    two_pass (is_castable c.args.a.now) _ c.loop-variant.variant-index c.variant-item.result one.0
    c.loop-variant-test.true c.variant-item.is
    (sym c.is_castable.ensures ∙ c.if-is_castable.true) (c.loop-variant.invariant ∙ one.1)
