-- The nodes among which a move changes one.
use Rattle.std.specs.Prelude.{ℕ, List, slice_get, unwrap_or}
use Rattle.fly_state.specs.declared.slots.NodeState.{NodeState}
use Rattle.fly_state.specs.States.{fresh_node}

-- the node of this number
abbrev pub node_in : List NodeState → ℕ → NodeState
node_in nodes i = unwrap_or (slice_get nodes i) fresh_node
