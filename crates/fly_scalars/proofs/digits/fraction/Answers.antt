use Rattle.std.proofs.Common.{arith, rules}
use Rattle.std.proofs.lemmas.Grind.{common_steps}
use Rattle.fly_scalars.specs.Digits.{fraction}
use Rattle.fly_scalars.proofs.digits.fraction.Goals as goal

pub returns-in-46-clause-value : goal.returns-in-46-clause-value
unfolding fraction
returns-in-46-clause-value c = first_of (search rules, grind (arith, common_steps))

pub returns-in_default-clause-value : goal.returns-in_default-clause-value
unfolding fraction
returns-in_default-clause-value c = first_of (search rules, grind (arith, common_steps))
