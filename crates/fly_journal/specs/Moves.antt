-- The JSON of moves.
use Rattle.std.specs.Prelude.{ℕ, List, [], ◌∷◌, ◌++◌, map, Option, Some, None, option_map, codes}
use Rattle.std.specs.List.{AllPass}
use Rattle.std.specs.Option.{option_map_or}
use Rattle.serde_json.specs.Data.{Data, unsigned, number, string, array}
use Rattle.serde_json.specs.View.{items_of}
use Rattle.fly_docs.specs.AttemptName.{path_text, item_text}
use Rattle.fly_docs.specs.Plans.{PlanNode}
use Rattle.fly_state.specs.declared.moves.Move.{Move}
use Rattle.fly_state.specs.declared.moves.Step.{Step}
use Rattle.fly_state.specs.declared.moves.Step.TheVariants as step
use Rattle.fly_state.specs.Plans.{RunPlan, Path, node_numbered}
use Rattle.fly_world.specs.Steps.{is_in_plan}
use Rattle.fly_writers.specs.Json.{Fields, message}
use Rattle.fly_journal.specs.Words.{step_word}

-- the moves are at the root or at nodes of the plan
abbrev pub AreInPlan : RunPlan → List Move → Type 0
AreInPlan plan moves = AllPass (λ (m : Move). is_in_plan plan m.at) moves

-- a number that counts, as a place, an index or a version
abbrev pub count_json : ℕ → Data
count_json n = number (unsigned n)

-- the path of the node of a number
abbrev pub path_at : RunPlan → ℕ → Path
path_at plan i = option_map_or (λ (p : PlanNode). p.path) (node_numbered plan i) []

-- a point for the root, else the path of the node, with the number of the item behind it
abbrev pub slot_text : RunPlan → Option ℕ → Option ℕ → List ℕ
slot_text plan None item = codes "."
slot_text plan (Some i) item = path_text (path_at plan i) ++ item_text item

-- what a step names: a case, or the entries that it cites
abbrev pub step_fields : Step → Fields
step_fields (step.Choose case) = (codes "pick", Some (count_json case)) ∷ []
step_fields (step.Run miss lease) =
    (codes "miss", option_map count_json miss) ∷
    (codes "lease", option_map count_json lease) ∷ []
step_fields (step.Hit place) = (codes "entry", Some (count_json place)) ∷ []
step_fields (step.Stored place) = (codes "entry", Some (count_json place)) ∷ []
step_fields _ = []

-- a move: its slot, the word of its step and what that names
abbrev pub move_fields : RunPlan → Move → Fields
move_fields plan m =
    (codes "at", Some (string (slot_text plan m.at.node m.at.item))) ∷
    (codes "do", Some (string (step_word m.step))) ∷ step_fields m.step

-- the JSON of a move
abbrev pub move_json : RunPlan → Move → Data
move_json plan m = message (move_fields plan m)

-- the moves of a Write, in order
abbrev pub moves_json : RunPlan → List Move → Data
moves_json plan moves = array (items_of (map (move_json plan) moves))
