-- What an answer to `==` says of two outcomes.
use Rattle.std.specs.Prelude.{◌≡◌, ◌↔◌, Bool, IsTrue}
use Rattle.fly_types.proofs.SameLemmas.{answers_equal}
use Rattle.fly_policy.specs.declared.outcome.Outcome.{Outcome}
use Rattle.fly_policy.specs.contracts.outcome.Outcome as outcome
use Rattle.fly_policy.specs.Same.{same_outcome}

pub answers_same_outcome : (a b : Outcome) (r : Bool) → (IsTrue r ↔ (a ≡ b)) → r ≡ same_outcome a b
unfolding same_outcome
answers_same_outcome = answers_equal outcome.the_row.coded
