-- The attempts of tasks as three lists that grow at their ends, and what is told of an attempt by them.
use Rattle.std.specs.Prelude.{ℕ, Bool, not, List, [], ◌∷◌, ◌++◌, find, slice_get, Option, option_map, option_and_then, is_some}
use Rattle.fly_types.specs.declared.text.Text.{Text}
use Rattle.fly_docs.specs.declared.attempt_name.AttemptName.{AttemptName}
use Rattle.fly_policy.specs.declared.outcome.Outcome.{Outcome}
use Rattle.fly_attempts.specs.declared.parts.Launch.{Launch}
use Rattle.fly_attempts.specs.Parts.{Claim, Settlement, same_name}
use Rattle.fly_attempts.specs.Launches.{number_in, numbers_in}

-- what was launched, what was handed out, and what came to an end, each in its order
pub record AttemptLists : Type 0 where
  pub launches : List Launch
  pub claims : List Claim
  pub outcomes : List Settlement

-- before any launch
abbrev pub no_attempts : AttemptLists
no_attempts = record { launches = []; claims = []; outcomes = [] }

-- ---- of a name

-- the number of the launch of that name
abbrev pub number_of : AttemptLists → AttemptName → Option ℕ
number_of a name = number_in a.launches name

-- the first claim of that name
abbrev pub claim_of : AttemptLists → AttemptName → Option Claim
claim_of a name = find (λ (c : Claim). same_name name c.name) a.claims

-- the first settlement of that name
abbrev pub settlement_of : AttemptLists → AttemptName → Option Settlement
settlement_of a name = find (λ (s : Settlement). same_name name s.name) a.outcomes

-- what the attempt of that name came to
abbrev pub outcome_of : AttemptLists → AttemptName → Option Outcome
outcome_of a name = option_map (λ (s : Settlement). s.outcome) (settlement_of a name)

-- the attempt of that name was handed out
abbrev pub is_claimed : AttemptLists → AttemptName → Bool
is_claimed a name = is_some (claim_of a name)

-- the attempt of that name has an outcome
abbrev pub is_settled : AttemptLists → AttemptName → Bool
is_settled a name = is_some (outcome_of a name)

-- ---- of a number

-- the launch of a number, in the order of launches from 0
abbrev pub launch_at : AttemptLists → ℕ → Option Launch
launch_at a number = slice_get a.launches number

-- the claim of the launch of a number
abbrev pub claim_at : AttemptLists → ℕ → Option Claim
claim_at a number = option_and_then (λ (l : Launch). claim_of a l.name) (launch_at a number)

-- the settlement of the launch of a number
abbrev pub settlement_at : AttemptLists → ℕ → Option Settlement
settlement_at a number = option_and_then (λ (l : Launch). settlement_of a l.name) (launch_at a number)

-- the numbers of the launches of an execution, rising
abbrev pub numbers_of : AttemptLists → Text → List ℕ
numbers_of a exec = numbers_in a.launches exec

-- ---- the next ones

-- the first launched attempt that nobody has claimed
abbrev pub unclaimed : AttemptLists → Option Launch
unclaimed a = find (λ (l : Launch). not (is_claimed a l.name)) a.launches

-- the first claimed attempt without an outcome
abbrev pub unsettled : AttemptLists → Option AttemptName
unsettled a = option_map (λ (c : Claim). c.name) (find (λ (c : Claim). not (is_settled a c.name)) a.claims)

-- ---- with one more

-- with a launch, a claim or a settlement at the end of its list
abbrev pub with_launch : AttemptLists → Launch → AttemptLists
with_launch a l = record a { launches = a.launches ++ l ∷ [] }

abbrev pub with_claim : AttemptLists → Claim → AttemptLists
with_claim a c = record a { claims = a.claims ++ c ∷ [] }

abbrev pub with_settlement : AttemptLists → Settlement → AttemptLists
with_settlement a s = record a { outcomes = a.outcomes ++ s ∷ [] }
