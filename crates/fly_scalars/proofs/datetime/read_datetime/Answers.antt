use Rattle.std.proofs.Common.{arith, rules}
use Rattle.std.proofs.lemmas.Grind.{common_steps}
use Rattle.fly_scalars.specs.Datetime.{datetime_of}
use Rattle.fly_scalars.proofs.datetime.read_datetime.Goals as goal

pub returns-in_err-day-clause-value : goal.returns-in_err-day-clause-value
unfolding datetime_of
returns-in_err-day-clause-value c = first_of (search rules, grind (arith, common_steps))

pub returns-in_err-rest-clause-value : goal.returns-in_err-rest-clause-value
unfolding datetime_of
returns-in_err-rest-clause-value c = first_of (search rules, grind (arith, common_steps))

pub returns-in_err-second-clause-value : goal.returns-in_err-second-clause-value
unfolding datetime_of
returns-in_err-second-clause-value c = first_of (search rules, grind (arith, common_steps))

pub returns-in_err-nanos-clause-value : goal.returns-in_err-nanos-clause-value
unfolding datetime_of
returns-in_err-nanos-clause-value c = first_of (search rules, grind (arith, common_steps))

pub returns-in_err-offset-clause-value : goal.returns-in_err-offset-clause-value
unfolding datetime_of
returns-in_err-offset-clause-value c = first_of (search rules, grind (arith, common_steps))

pub returns-clause-value : goal.returns-clause-value
unfolding datetime_of
returns-clause-value c = first_of (search rules, grind (arith, common_steps))
