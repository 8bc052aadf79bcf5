-- The branches around a node.
use Rattle.std.specs.Prelude.{ℕ, ◌+◌, ◌-◌, min, List, filter, drop, length}
use Rattle.std.specs.List.{range_with_len}
use Rattle.fly_docs.specs.declared.node.Node.{Node}
use Rattle.fly_docs.specs.declared.workflow.Workflow.{Workflow}
use Rattle.fly_docs.specs.Plans.{inner_nodes, places_of}
use Rattle.fly_docs.specs.Edges.{is_inside}

-- the places behind this one at which the nodes inside its node stand, of so many places
abbrev pub inner_places : ℕ → ℕ → Node → List ℕ
inner_places count place n = range_with_len (place + 1) (min (length (inner_nodes n)) (count - (place + 1)))

-- the branches around the node at v, the outermost first
abbrev pub branches_around : Workflow → ℕ → List ℕ
branches_around w v = filter (λ t. is_inside w t v) (places_of w)

-- the last of a row alone, or nothing
abbrev pub last_alone : List ℕ → List ℕ
last_alone row = drop (length row - 1) row
