use Rattle.std.proofs.Common.{◌≡◌, map, take, drop}
use Rattle.serde_json.specs.Data.{no_members}
use Rattle.fly_writers.specs.Json.{with_fields, as_fields}
use Rattle.fly_writers.specs.Built.{elements_of, members_of}
use Rattle.fly_writers.specs.Literals.{literal_json, literal_entry}
use Rattle.fly_writers.proofs.literals.+literal_value.Given as goal

abbrev pub invariant-literals_value-loop-literal : goal.invariant-literals_value-loop-literal
invariant-literals_value-loop-literal l = elements_of l.values ≡ map literal_json (take l.literal-index l.literals)

abbrev pub invariant-entries_value-loop-name : goal.invariant-entries_value-loop-name
invariant-entries_value-loop-name l =
    with_fields (members_of l.message) (as_fields (map literal_entry (drop l.name-index l.entries))) ≡ with_fields no_members (as_fields (map literal_entry l.entries))
