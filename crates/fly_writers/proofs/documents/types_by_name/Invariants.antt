use Rattle.std.proofs.Common.{◌≡◌, map, drop}
use Rattle.serde_json.specs.Data.{no_members}
use Rattle.fly_writers.specs.Json.{with_fields, as_fields}
use Rattle.fly_writers.specs.Built.{members_of}
use Rattle.fly_writers.specs.Documents.{variable_entry}
use Rattle.fly_writers.proofs.documents.types_by_name.Given as goal

abbrev pub invariant-loop-variable : goal.invariant-loop-variable
invariant-loop-variable l =
    with_fields (members_of l.message) (as_fields (map variable_entry (drop l.variable-index l.variables))) ≡ with_fields no_members (as_fields (map variable_entry l.variables))
