-- The moves of a round: in plan order, with the root last, all moves that are legal at a view with what the round itself
-- was told.
use Rattle.std.specs.Prelude.{ℕ, Bool, false, List, [], ◌∷◌, ◌++◌, map, flat_map, filter, length, Some, None}
use Rattle.std.specs.List.{enumerate_from, range_with_len}
use Rattle.fly_docs.specs.Plans.{PlanNode}
use Rattle.fly_state.specs.declared.slots.SlotState.{SlotState}
use Rattle.fly_state.specs.declared.moves.At.{At}
use Rattle.fly_state.specs.declared.moves.Move.{Move}
use Rattle.fly_state.specs.declared.moves.Step.{Step}
use Rattle.fly_state.specs.declared.moves.Step.TheVariants as step
use Rattle.fly_state.specs.declared.entries.Entry.{Entry}
use Rattle.fly_state.specs.declared.entries.Op.{Op}
use Rattle.fly_state.specs.declared.entries.Op.TheVariants as op
use Rattle.fly_state.specs.declared.view.View.{View}
use Rattle.fly_state.specs.Plans.{RunPlan, case_nodes}
use Rattle.fly_state.specs.States.{node_state}
use Rattle.fly_state.specs.Moves.{is_on, is_legal}
use Rattle.fly_state.specs.Rounds.{CitedMove}
use Rattle.fly_round.specs.declared.told.Told.{Told}
use Rattle.fly_round.specs.Questions.{entry_of}

-- ---- what was told of a node

-- the operation is on the catalog's outputs of the node
abbrev pub is_about : View → PlanNode → Op → Bool
is_about v p (op.Lookup exec path) = is_on v p exec path
is_about v p (op.Reserve exec path) = is_on v p exec path
is_about v p (op.Put exec path) = is_on v p exec path
is_about v p _ = false

-- what was told of the node's outputs in the catalog
abbrev pub told_of : View → List Told → PlanNode → List Told
told_of v told p = filter (λ (t : Told). is_about v p t.op) told

-- ---- steps, legal or not

-- those that cite nothing, for a node of so many cases
abbrev pub plain_steps : ℕ → List Step
plain_steps cases =
    step.Begin ∷ step.Queue ∷ map step.Choose (range_with_len 0 cases)
    ++ step.NoCase ∷ step.InputFail ∷ step.Skip ∷ step.Run None None ∷ step.Retry ∷ step.Settle ∷ step.Close ∷ step.Abort ∷ []

-- those that cite all of what was told
abbrev pub citing_steps : List Told → List Step
citing_steps (a ∷ []) = step.Run (Some a.place) None ∷ step.Hit a.place ∷ step.Stored a.place ∷ []
citing_steps (a ∷ b ∷ []) = step.Run (Some a.place) (Some b.place) ∷ []
citing_steps _ = []

abbrev pub cited_move : At → List Entry → Step → CitedMove
cited_move at entries s = record { move = record { at = at; step = s }; entries = entries }

-- the moves of a slot of which this was told
abbrev pub possible_moves : At → ℕ → List Told → List CitedMove
possible_moves at cases told =
    map (cited_move at []) (plain_steps cases) ++ map (cited_move at (map entry_of told)) (citing_steps told)

-- ---- legal moves

-- those of the moves of a slot that are legal
abbrev pub slot_moves : RunPlan → View → At → ℕ → List Told → List Move
slot_moves plan v at cases told =
    map (λ (m : CitedMove). m.move) (filter (λ (m : CitedMove). is_legal plan v m.entries m.move) (possible_moves at cases told))

abbrev pub at_node : ℕ → At
at_node i = record { node = Some i; item = None }

abbrev pub at_item : ℕ → ℕ → At
at_item i item = record { node = Some i; item = Some item }

abbrev pub at_root : At
at_root = record { node = None; item = None }

-- of a node, and then of its items
abbrev pub node_moves : RunPlan → View → List Told → ℕ × PlanNode → List Move
node_moves plan v told at =
    slot_moves plan v (at_node at.0) (length (case_nodes at.1.node)) (told_of v told at.1)
    ++ flat_map (λ (item : ℕ × SlotState). slot_moves plan v (at_item at.0 item.0) 0 []) (enumerate_from 0 (node_state v.state at.0).items)

abbrev pub root_moves : RunPlan → View → List Move
root_moves plan v = slot_moves plan v at_root 0 []

-- of all nodes in plan order, and then of the root
abbrev pub round_moves : RunPlan → View → List Told → List Move
round_moves plan v told = flat_map (node_moves plan v told) (enumerate_from 0 plan.nodes) ++ root_moves plan v
