use Rattle.std.proofs.Common.{arith, rules}
use Rattle.std.proofs.lemmas.Grind.{common_steps}
use Rattle.jiff_fmt.specs.Reader.{four_digits}
use Rattle.fly_scalars.proofs.digits.four_digits.Goals as goal

pub returns-in_err-century-clause-value : goal.returns-in_err-century-clause-value
unfolding four_digits
returns-in_err-century-clause-value c = first_of (search rules, grind (arith, common_steps))

pub returns-in_err-year-clause-value : goal.returns-in_err-year-clause-value
unfolding four_digits
returns-in_err-year-clause-value c = first_of (search rules, grind (arith, common_steps))

pub returns-clause-value : goal.returns-clause-value
unfolding four_digits
returns-clause-value c = first_of (search rules, grind (arith, common_steps))
