-- The fields of operations.
use Rattle.std.specs.Prelude.{ℕ, ℤ, List, [], ◌∷◌, Some, codes}
use Rattle.serde_json.specs.Data.{string, number}
use Rattle.serde_json.specs.Find.{of_integer}
use Rattle.hex.specs.Hex.{encode_lower}
use Rattle.fly_types.specs.declared.text.Text.{Text}
use Rattle.fly_types.specs.declared.literals.LiteralMap.{LiteralMap}
use Rattle.fly_docs.specs.declared.dataset.DatasetId.{DatasetId}
use Rattle.fly_docs.specs.declared.attempt_name.AttemptName.{AttemptName}
use Rattle.fly_docs.specs.AttemptName.{path_text, name_text}
use Rattle.fly_policy.specs.declared.outcome.Outcome.{Outcome}
use Rattle.fly_state.specs.declared.entries.Op.{Op}
use Rattle.fly_state.specs.declared.entries.Op.TheVariants as op
use Rattle.fly_state.specs.declared.moves.Move.{Move}
use Rattle.fly_state.specs.Plans.{RunPlan, Path}
use Rattle.fly_writers.specs.Json.{Fields, message}
use Rattle.fly_writers.specs.Literals.{literal_map_json}
use Rattle.fly_journal.specs.Moves.{count_json, moves_json}
use Rattle.fly_journal.specs.Outcomes.{outcome_json}

-- the SHA-256 of a closure's text
abbrev pub begin_fields : List ℕ → Fields
begin_fields closure = (codes "closure", Some (string (encode_lower closure))) ∷ []

-- DatasetID, of which all fields are written, also where they are empty
abbrev pub dataset_fields : DatasetId → Fields
dataset_fields d =
    (codes "project", Some (string d.project)) ∷
    (codes "domain", Some (string d.domain)) ∷
    (codes "name", Some (string d.name)) ∷
    (codes "version", Some (string d.version)) ∷ []

-- an artifact under its tag
abbrev pub import_fields : DatasetId → Text → LiteralMap → Fields
import_fields dataset tag content =
    (codes "dataset", Some (message (dataset_fields dataset))) ∷
    (codes "tag", Some (string tag)) ∷
    (codes "content", Some (literal_map_json content)) ∷ []

-- an execution and its inputs
abbrev pub submit_fields : Text → LiteralMap → Fields
submit_fields exec inputs =
    (codes "exec", Some (string exec)) ∷
    (codes "inputs", Some (literal_map_json inputs)) ∷ []

-- what a clock shows
abbrev pub tick_fields : ℤ → Fields
tick_fields now = (codes "now", Some (number (of_integer now))) ∷ []

-- from which execution on, and how many versions back
abbrev pub read_fields : ℕ → ℕ → Fields
read_fields from back =
    (codes "from", Some (count_json from)) ∷
    (codes "back", Some (count_json back)) ∷ []

-- a node of an execution
abbrev pub node_fields : Text → Path → Fields
node_fields exec path =
    (codes "exec", Some (string exec)) ∷
    (codes "path", Some (string (path_text path))) ∷ []

-- an attempt by its name
abbrev pub attempt_fields : AttemptName → Fields
attempt_fields name = (codes "name", Some (string (name_text name))) ∷ []

-- an attempt and its inputs
abbrev pub launch_fields : AttemptName → LiteralMap → Fields
launch_fields name inputs = (codes "inputs", Some (literal_map_json inputs)) ∷ attempt_fields name

-- the moves that are to make the version after the base
abbrev pub write_fields : RunPlan → Text → ℕ → List Move → Fields
write_fields plan exec base moves =
    (codes "exec", Some (string exec)) ∷
    (codes "base", Some (count_json base)) ∷
    (codes "moves", Some (moves_json plan moves)) ∷ []

-- an attempt and what it came to
abbrev pub finish_fields : AttemptName → Outcome → Fields
finish_fields name outcome = (codes "outcome", Some (outcome_json outcome)) ∷ attempt_fields name

-- what an operation asks
abbrev pub op_fields : RunPlan → Op → Fields
op_fields plan (op.Begin closure) = begin_fields closure
op_fields plan (op.Import dataset tag content) = import_fields dataset tag content
op_fields plan (op.Submit exec inputs) = submit_fields exec inputs
op_fields plan (op.Tick now) = tick_fields now
op_fields plan op.Sweep = []
op_fields plan (op.Read from back) = read_fields from back
op_fields plan (op.Lookup exec path) = node_fields exec path
op_fields plan (op.Reserve exec path) = node_fields exec path
op_fields plan (op.Launch name inputs) = launch_fields name inputs
op_fields plan (op.Expire name) = attempt_fields name
op_fields plan (op.Put exec path) = node_fields exec path
op_fields plan (op.Write exec base moves) = write_fields plan exec base moves
op_fields plan op.Claim = []
op_fields plan (op.Finish name outcome) = finish_fields name outcome
