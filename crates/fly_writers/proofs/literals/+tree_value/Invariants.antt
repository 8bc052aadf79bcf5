use Rattle.std.proofs.Common.{◌≡◌, map, take, drop}
use Rattle.serde_json.specs.Data.{no_members}
use Rattle.fly_writers.specs.Json.{with_fields, as_fields}
use Rattle.fly_writers.specs.Built.{elements_of, members_of}
use Rattle.fly_writers.specs.Literals.{tree_json, tree_entry}
use Rattle.fly_writers.proofs.literals.+tree_value.Given as goal

abbrev pub invariant-trees_value-loop-tree : goal.invariant-trees_value-loop-tree
invariant-trees_value-loop-tree l = elements_of l.values ≡ map tree_json (take l.tree-index l.trees)

abbrev pub invariant-members_value-loop-name : goal.invariant-members_value-loop-name
invariant-members_value-loop-name l =
    with_fields (members_of l.message) (as_fields (map tree_entry (drop l.name-index l.members))) ≡ with_fields no_members (as_fields (map tree_entry l.members))
