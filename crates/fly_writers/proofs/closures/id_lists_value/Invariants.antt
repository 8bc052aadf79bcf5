use Rattle.std.proofs.Common.{◌≡◌, map, drop}
use Rattle.serde_json.specs.Data.{no_members}
use Rattle.fly_writers.specs.Json.{with_fields, as_fields}
use Rattle.fly_writers.specs.Built.{members_of}
use Rattle.fly_writers.specs.Closures.{id_list_entry}
use Rattle.fly_writers.proofs.closures.id_lists_value.Given as goal

abbrev pub invariant-loop-node : goal.invariant-loop-node
invariant-loop-node l =
    with_fields (members_of l.message) (as_fields (map id_list_entry (drop l.node-index l.lists))) ≡ with_fields no_members (as_fields (map id_list_entry l.lists))
