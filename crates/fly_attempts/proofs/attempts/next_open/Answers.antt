use Rattle.std.proofs.Common.{◌+◌, ◌≤◌, length, sym, ◌∙◌, arith}
use Rattle.fly_attempts.proofs.TableLemmas.{ends_before_next, first_open_at}
use Rattle.fly_attempts.proofs.attempts.next_open.Goals as goal

pub loop-number-preserved : goal.loop-number-preserved
loop-number-preserved c =
    let inside = c.loop-number-test.true in
    let within : c.loop-number.number + 1 ≤ length c.args.ends.now = omega (arith, inside) in (
      within,
      ends_before_next c.args.ends.now c.loop-number.number inside (sym c.is_some.ensures ∙ c.if-is_some.true)
          c.loop-number.invariant.1,
    )

pub returns-else-is_some : goal.returns-else-is_some
returns-else-is_some c =
    first_open_at c.args.ends.now c.loop-number.number c.loop-number-test.true
    (sym c.is_some.ensures ∙ c.if-is_some.false) c.loop-number.invariant.1
