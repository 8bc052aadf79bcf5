-- What `==` answers on outcomes: whether the two are one.
use Rattle.std.specs.Prelude.{Bool}
use Rattle.fly_types.specs.Same.{equal}
use Rattle.fly_policy.specs.declared.outcome.Outcome.{Outcome}
use Rattle.fly_policy.specs.contracts.outcome.Outcome as outcome

-- whether two outcomes are one
unfoldable pub same_outcome : Outcome → Outcome → Bool
same_outcome = equal outcome.the_row.coded
