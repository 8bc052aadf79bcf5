use Rattle.std.proofs.Common.{arith, rules}
use Rattle.std.proofs.lemmas.Grind.{common_steps}
use Rattle.fly_scalars.specs.Datetime.{time_front}
use Rattle.fly_scalars.proofs.datetime.time_at.Goals as goal

pub returns-in_err-minutes-clause-value : goal.returns-in_err-minutes-clause-value
unfolding time_front
returns-in_err-minutes-clause-value c = first_of (search rules, grind (arith, common_steps))

pub returns-in_err-rest-clause-value : goal.returns-in_err-rest-clause-value
unfolding time_front
returns-in_err-rest-clause-value c = first_of (search rules, grind (arith, common_steps))

pub returns-in_err-second-clause-value : goal.returns-in_err-second-clause-value
unfolding time_front
returns-in_err-second-clause-value c = first_of (search rules, grind (arith, common_steps))

pub returns-then-second-gt59-clause-value : goal.returns-then-second-gt59-clause-value
unfolding time_front
returns-then-second-gt59-clause-value c = first_of (search rules, grind (arith, common_steps))

pub returns-clause-value : goal.returns-clause-value
unfolding time_front
returns-clause-value c = first_of (search rules, grind (arith, common_steps))
