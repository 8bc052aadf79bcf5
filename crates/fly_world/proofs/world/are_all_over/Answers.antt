use Rattle.std.proofs.Common.{sym, ◌∙◌, arith}
use Rattle.fly_world.proofs.WorldLemmas.{one-going_on, one-more_over}
use Rattle.fly_world.proofs.world.are_all_over.Goals as goal

pub returns-then-is_going_on : goal.returns-then-is_going_on
returns-then-is_going_on c =
    sym (one-going_on c.args.store.now.world.executions c.loop-number.number
    (sym c.is_going_on.ensures ∙ c.if-is_going_on.true))

pub loop-number-preserved : goal.loop-number-preserved
loop-number-preserved c =
    one-more_over c.args.store.now.world.executions c.loop-number.number
    (omega (arith, c.loop-number-test.true, c.execution_count-number-end.ensures.value))
    (sym c.is_going_on.ensures ∙ c.if-is_going_on.false) c.loop-number.invariant
