-- How an attempt stands, of the plan and the submissions.
use Rattle.std.specs.Prelude.{◌≡◌, ℕ, Bool, true, false, slice_get, IsSome, None, Some}
use Rattle.fly_docs.specs.declared.attempt_name.AttemptName.{AttemptName}
use Rattle.fly_attempts.specs.Attempts.{number_of}
use Rattle.fly_world.specs.declared.attempts.Standing.{Standing}
use Rattle.fly_world.specs.declared.attempts.Standing.TheVariants as standing
use Rattle.fly_world.specs.World.{World, Claim, claim_of, is_settled}
use Rattle.fly_world.specs.Spots.{Spot}
use Rattle.fly_world.specs.Steps.{is_overdue}
use Rattle.fly_world.specs.Store.{StoreLists, attempts_in}

-- An attempt that was claimed and has no outcome: its number, and whether its time is over.
pub record IsGoing (s : StoreLists) (spot : Spot) (name : AttemptName) (number : ℕ) (overdue : Bool) : Type 0 where
  pub numbered : number_of (attempts_in s.world) name ≡ Some number
  pub claim : Claim
  pub claimed : claim_of s.world name ≡ Some claim
  pub unsettled : is_settled s.world name ≡ false
  pub due : is_overdue s.plan s.world spot claim ≡ overdue

abbrev pub Stands : StoreLists → Spot → AttemptName → Standing → Type 0
Stands s spot name standing.NotClaimed = claim_of s.world name ≡ None
Stands s spot name standing.Settled = IsSome (claim_of s.world name) × (is_settled s.world name ≡ true)
Stands s spot name (standing.Overdue number) = IsGoing s spot name number true
Stands s spot name (standing.Going number) = IsGoing s spot name number false
