-- What the end of a child means for its attempt: the kinds of flyteidl's `ErrorDocument`, with this project's codes.
use Rattle.std.specs.Prelude.{◌≡◌, ◌≢◌, ◌⊎◌, ℤ, pos, true, false, List, [], codes}
use Rattle.std.specs.List.{AllZip}
use Rattle.std.specs.Fmt.{signed_decimal}
use Rattle.fly_types.specs.declared.text.Text.{Text}
use Rattle.fly_types.specs.declared.literals.Literal.{Literal}
use Rattle.fly_types.specs.declared.literals.LiteralMap.{LiteralMap}
use Rattle.fly_types.specs.declared.variable.Variable.{Variable}
use Rattle.fly_types.specs.declared.said.Said.{Said}
use Rattle.fly_types.specs.declared.said.Said.TheVariants.{Outputs, Error, TooLarge, Neither}
use Rattle.fly_types.specs.Membership.{IsMember}
use Rattle.fly_policy.specs.declared.heard.Heard.{Heard}
use Rattle.fly_policy.specs.declared.heard.Heard.TheVariants.{Fault, NoStatus, Ended}
use Rattle.fly_policy.specs.declared.outcome.Outcome.{Outcome}
use Rattle.fly_policy.specs.declared.outcome.Outcome.TheVariants.{Succeeded, Recoverable, Fatal}

-- the entry gives the output: under its name, a literal of its type
abbrev pub Gives : Variable → Text × Literal → Type 0
Gives output entry = (entry.0 ≡ output.name) × IsMember output.kind entry.1

-- the map gives each output at its place, and nothing else; both are sorted by name
abbrev pub AreOutputs : List Variable → LiteralMap → Type 0
AreOutputs outputs given = AllZip Gives outputs given.entries

-- what a child with status 0 comes to
abbrev pub IsOutcomeOfSuccess : List Variable → Said → Outcome → Type 0
IsOutcomeOfSuccess outputs (Outputs given) outcome =
    (AreOutputs outputs given × (outcome ≡ Succeeded given))
    ⊎ ((¬ AreOutputs outputs given) × (outcome ≡ Fatal (codes "BadOutputs") []))
IsOutcomeOfSuccess outputs (Error code message recoverable) outcome = outcome ≡ Fatal (codes "BadOutputs") []
IsOutcomeOfSuccess outputs TooLarge outcome = outcome ≡ Fatal (codes "OutputTooLarge") []
IsOutcomeOfSuccess outputs Neither outcome = outcome ≡ Fatal (codes "BadOutputs") []

-- what a child with another status comes to
abbrev pub outcome_of_failure : ℤ → Said → Outcome
outcome_of_failure status (Error code message true) = Recoverable code message
outcome_of_failure status (Error code message false) = Fatal code message
outcome_of_failure status (Outputs given) = Recoverable (codes "ExitStatus") (signed_decimal status)
outcome_of_failure status TooLarge = Recoverable (codes "ExitStatus") (signed_decimal status)
outcome_of_failure status Neither = Recoverable (codes "ExitStatus") (signed_decimal status)

-- what a child comes to, where its task has these outputs
abbrev pub IsOutcomeOf : List Variable → Heard → Outcome → Type 0
IsOutcomeOf outputs Fault outcome = outcome ≡ Recoverable (codes "SpawnFault") []
IsOutcomeOf outputs NoStatus outcome = outcome ≡ Recoverable (codes "Signal") []
IsOutcomeOf outputs (Ended status said) outcome =
    (status ≡ pos 0 → IsOutcomeOfSuccess outputs said outcome)
    × (status ≢ pos 0 → outcome ≡ outcome_of_failure status said)
