use Rattle.std.proofs.Common.{arith, rules}
use Rattle.std.proofs.lemmas.Grind.{common_steps}
use Rattle.fly_scalars.specs.Duration.{unsigned_span}
use Rattle.fly_scalars.proofs.duration.unsigned.Goals as goal

pub returns-in_err-seconds-clause-value : goal.returns-in_err-seconds-clause-value
unfolding unsigned_span
returns-in_err-seconds-clause-value c = first_of (search rules, grind (arith, common_steps))

pub returns-in_err-nanos-clause-value : goal.returns-in_err-nanos-clause-value
unfolding unsigned_span
returns-in_err-nanos-clause-value c = first_of (search rules, grind (arith, common_steps))

pub returns-in_err-rest-clause-value : goal.returns-in_err-rest-clause-value
unfolding unsigned_span
returns-in_err-rest-clause-value c = first_of (search rules, grind (arith, common_steps))

pub returns-then-not-is_empty-clause-value : goal.returns-then-not-is_empty-clause-value
unfolding unsigned_span
returns-then-not-is_empty-clause-value c = first_of (search rules, grind (arith, common_steps))

pub returns-then-nanos-eq0-clause-value : goal.returns-then-nanos-eq0-clause-value
unfolding unsigned_span
returns-then-nanos-eq0-clause-value c = first_of (search rules, grind (arith, common_steps))

pub returns-else-nanos-eq0-clause-value : goal.returns-else-nanos-eq0-clause-value
unfolding unsigned_span
returns-else-nanos-eq0-clause-value c = first_of (search rules, grind (arith, common_steps))
