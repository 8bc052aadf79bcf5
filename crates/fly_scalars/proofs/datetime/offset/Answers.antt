use Rattle.std.proofs.Common.{arith, rules}
use Rattle.std.proofs.lemmas.Grind.{common_steps}
use Rattle.fly_scalars.specs.Datetime.{offset_of}
use Rattle.fly_scalars.proofs.datetime.offset.Goals as goal

pub returns-in_err-minutes_alone-in-45-clause-value : goal.returns-in_err-minutes_alone-in-45-clause-value
unfolding offset_of
returns-in_err-minutes_alone-in-45-clause-value c = first_of (search rules, grind (arith, common_steps))

pub returns-in_err-minutes_alone-in-43-clause-value : goal.returns-in_err-minutes_alone-in-43-clause-value
unfolding offset_of
returns-in_err-minutes_alone-in-43-clause-value c = first_of (search rules, grind (arith, common_steps))

pub returns-in-90-clause-value : goal.returns-in-90-clause-value
unfolding offset_of
returns-in-90-clause-value c = first_of (search rules, grind (arith, common_steps))

pub returns-in_ok-minutes_alone-in-45-clause-value : goal.returns-in_ok-minutes_alone-in-45-clause-value
unfolding offset_of
returns-in_ok-minutes_alone-in-45-clause-value c = first_of (search rules, grind (arith, common_steps))

pub returns-in_ok-minutes_alone-in-43-clause-value : goal.returns-in_ok-minutes_alone-in-43-clause-value
unfolding offset_of
returns-in_ok-minutes_alone-in-43-clause-value c = first_of (search rules, grind (arith, common_steps))

pub returns-in_default-clause-value : goal.returns-in_default-clause-value
unfolding offset_of
returns-in_default-clause-value c = first_of (search rules, grind (arith, common_steps))

pub returns-in_default-2-clause-value : goal.returns-in_default-2-clause-value
unfolding offset_of
returns-in_default-2-clause-value c = first_of (search rules, grind (arith, common_steps))

pub returns-in_default-3-clause-value : goal.returns-in_default-3-clause-value
unfolding offset_of
returns-in_default-3-clause-value c = first_of (search rules, grind (arith, common_steps))
