use Rattle.std.proofs.Common.{arith, rules}
use Rattle.std.proofs.lemmas.Grind.{common_steps}
use Rattle.jiff_fmt.specs.Reader.{two_digits}
use Rattle.fly_scalars.proofs.digits.two_digits.Goals as goal

pub returns-in-48-to-57-clause-value : goal.returns-in-48-to-57-clause-value
unfolding two_digits
returns-in-48-to-57-clause-value c = first_of (search rules, grind (arith, common_steps))

pub returns-in_default-clause-value : goal.returns-in_default-clause-value
unfolding two_digits
returns-in_default-clause-value c = first_of (search rules, grind (arith, common_steps))
