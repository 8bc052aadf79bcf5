use Rattle.std.proofs.Common.{◌≡◌, map, take, drop}
use Rattle.serde_json.specs.Data.{no_members}
use Rattle.fly_writers.specs.Json.{with_fields, as_fields}
use Rattle.fly_writers.specs.Built.{elements_of, members_of}
use Rattle.fly_writers.specs.Bindings.{bound_json, bound_entry}
use Rattle.fly_writers.proofs.bindings.+bound_value.Given as goal

abbrev pub invariant-bounds_value-loop-bound : goal.invariant-bounds_value-loop-bound
invariant-bounds_value-loop-bound l = elements_of l.values ≡ map bound_json (take l.bound-index l.bounds)

abbrev pub invariant-entries_value-loop-name : goal.invariant-entries_value-loop-name
invariant-entries_value-loop-name l =
    with_fields (members_of l.message) (as_fields (map bound_entry (drop l.name-index l.entries))) ≡ with_fields no_members (as_fields (map bound_entry l.entries))
