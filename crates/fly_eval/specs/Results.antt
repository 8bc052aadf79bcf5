-- What is recorded of an execution: what its attempts came to, and what the catalog answered for its nodes.
use Rattle.std.specs.Prelude.{ℕ, ◌==◌, Bool, ◌&&◌, find, Option, option_map}
use Rattle.fly_types.specs.declared.literals.LiteralMap.{LiteralMap}
use Rattle.fly_docs.specs.declared.attempt_name.AttemptName.{AttemptName}
use Rattle.fly_policy.specs.declared.outcome.Outcome.{Outcome}
use Rattle.fly_state.specs.Plans.{Path, same_path}
use Rattle.fly_state.specs.Moves.{same_item}
use Rattle.fly_eval.specs.declared.results.Results.{Results}
use Rattle.fly_eval.specs.declared.results.Hits.{Hits}

-- a node, or an item of an array
pub record Slot : Type 0 where
  pub path : Path
  pub item : Option ℕ

-- the name is of the slot's attempt of this number, of whichever execution
abbrev pub is_attempt_of : Slot → ℕ → AttemptName → Bool
is_attempt_of slot k name = same_path slot.path name.path && same_item slot.item name.item && k == name.attempt

-- what the slot's attempt of this number came to, where that is recorded
abbrev pub result_of : Results → Slot → ℕ → Option Outcome
result_of results slot k =
    option_map (λ (r : AttemptName × Outcome). r.1) (find (λ (r : AttemptName × Outcome). is_attempt_of slot k r.0) results.list)

-- what the catalog answered for the node of this path, where that is recorded: outputs, or that it has none
abbrev pub hit_of : Hits → Path → Option (Option LiteralMap)
hit_of hits path =
    option_map (λ (h : Path × Option LiteralMap). h.1) (find (λ (h : Path × Option LiteralMap). same_path path h.0) hits.list)
