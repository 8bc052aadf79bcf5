-- The JSON of outcomes, of which all fields are written, also where they are empty.
use Rattle.std.specs.Prelude.{ℕ, List, [], ◌∷◌, Some, codes}
use Rattle.serde_json.specs.Data.{Data, string}
use Rattle.fly_policy.specs.declared.outcome.Outcome.{Outcome}
use Rattle.fly_policy.specs.declared.outcome.Outcome.TheVariants as outcome
use Rattle.fly_writers.specs.Json.{Fields, message}
use Rattle.fly_writers.specs.Literals.{literal_map_json}

-- a failure, with its kind by flyteidl's ContainerError
abbrev pub failure_fields : List ℕ → List ℕ → List ℕ → Fields
failure_fields code text kind =
    (codes "code", Some (string code)) ∷
    (codes "kind", Some (string kind)) ∷
    (codes "message", Some (string text)) ∷ []

-- what an attempt came to; a timeout is in no line
abbrev pub outcome_fields : Outcome → Fields
outcome_fields (outcome.Succeeded outputs) = (codes "outputs", Some (literal_map_json outputs)) ∷ []
outcome_fields (outcome.Recoverable code text) = failure_fields code text (codes "RECOVERABLE")
outcome_fields (outcome.Fatal code text) = failure_fields code text (codes "NON_RECOVERABLE")
outcome_fields outcome.TimedOut = []

-- the JSON of an outcome
abbrev pub outcome_json : Outcome → Data
outcome_json o = message (outcome_fields o)
