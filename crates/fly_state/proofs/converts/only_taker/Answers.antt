use Rattle.std.proofs.Common.{sym, ◌∙◌}
use Rattle.fly_cast.specs.Castable.{is_castable}
use Rattle.fly_cast.proofs.Lists.{two_pass, some_copied}
use Rattle.fly_state.proofs.converts.only_taker.Goals as goal

pub returns-then-is_some : goal.returns-then-is_some
returns-then-is_some c =
    let one = some_copied c.loop-variant.taker (sym c.is_some.ensures ∙ c.if-is_some.true) in
    two_pass (is_castable c.args.a.now) _ c.loop-variant.variant-index c.variant-item.result one.0
    c.loop-variant-test.true c.variant-item.is
    (sym c.is_castable.ensures ∙ c.if-is_castable.true) (c.loop-variant.invariant ∙ one.1)
