use Rattle.std.proofs.Common.{arith, rules}
use Rattle.std.proofs.lemmas.Grind.{common_steps}
use Rattle.fly_scalars.specs.Duration.{duration_of}
use Rattle.fly_scalars.proofs.duration.read_duration.Goals as goal

pub returns-in_err-seconds-in-Some-clause-value : goal.returns-in_err-seconds-in-Some-clause-value
unfolding duration_of
returns-in_err-seconds-in-Some-clause-value c = first_of (search rules, grind (arith, common_steps))

pub returns-in_err-seconds-in-None-clause-value : goal.returns-in_err-seconds-in-None-clause-value
unfolding duration_of
returns-in_err-seconds-in-None-clause-value c = first_of (search rules, grind (arith, common_steps))

pub returns-in_ok-seconds-in-Some-clause-value : goal.returns-in_ok-seconds-in-Some-clause-value
unfolding duration_of
returns-in_ok-seconds-in-Some-clause-value c = first_of (search rules, grind (arith, common_steps))

pub returns-in_ok-seconds-in-None-clause-value : goal.returns-in_ok-seconds-in-None-clause-value
unfolding duration_of
returns-in_ok-seconds-in-None-clause-value c = first_of (search rules, grind (arith, common_steps))
