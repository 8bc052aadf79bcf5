use Rattle.std.proofs.Common.{arith, rules}
use Rattle.std.proofs.lemmas.Grind.{common_steps}
use Rattle.fly_scalars.specs.Datetime.{date_front}
use Rattle.fly_scalars.proofs.datetime.date_at.Goals as goal

pub returns-in_err-year-clause-value : goal.returns-in_err-year-clause-value
unfolding date_front
returns-in_err-year-clause-value c = first_of (search rules, grind (arith, common_steps))

pub returns-in_err-rest-clause-value : goal.returns-in_err-rest-clause-value
unfolding date_front
returns-in_err-rest-clause-value c = first_of (search rules, grind (arith, common_steps))

pub returns-in_err-month-clause-value : goal.returns-in_err-month-clause-value
unfolding date_front
returns-in_err-month-clause-value c = first_of (search rules, grind (arith, common_steps))

pub returns-in_err-rest-2-clause-value : goal.returns-in_err-rest-2-clause-value
unfolding date_front
returns-in_err-rest-2-clause-value c = first_of (search rules, grind (arith, common_steps))

pub returns-in_err-day-clause-value : goal.returns-in_err-day-clause-value
unfolding date_front
returns-in_err-day-clause-value c = first_of (search rules, grind (arith, common_steps))

pub returns-in-Ok-clause-value : goal.returns-in-Ok-clause-value
unfolding date_front
returns-in-Ok-clause-value c = first_of (search rules, grind (arith, common_steps))

pub returns-in-Err-clause-value : goal.returns-in-Err-clause-value
unfolding date_front
returns-in-Err-clause-value c = first_of (search rules, grind (arith, common_steps))
