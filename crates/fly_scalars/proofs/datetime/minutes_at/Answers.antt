use Rattle.std.proofs.Common.{arith, rules}
use Rattle.std.proofs.lemmas.Grind.{common_steps}
use Rattle.fly_scalars.specs.Datetime.{minutes_front}
use Rattle.fly_scalars.proofs.datetime.minutes_at.Goals as goal

pub returns-in_err-hour-clause-value : goal.returns-in_err-hour-clause-value
unfolding minutes_front
returns-in_err-hour-clause-value c = first_of (search rules, grind (arith, common_steps))

pub returns-in_err-rest-clause-value : goal.returns-in_err-rest-clause-value
unfolding minutes_front
returns-in_err-rest-clause-value c = first_of (search rules, grind (arith, common_steps))

pub returns-in_err-minute-clause-value : goal.returns-in_err-minute-clause-value
unfolding minutes_front
returns-in_err-minute-clause-value c = first_of (search rules, grind (arith, common_steps))

pub returns-then-hour-gt23-clause-value : goal.returns-then-hour-gt23-clause-value
unfolding minutes_front
returns-then-hour-gt23-clause-value c = first_of (search rules, grind (arith, common_steps))

pub returns-clause-value : goal.returns-clause-value
unfolding minutes_front
returns-clause-value c = first_of (search rules, grind (arith, common_steps))
