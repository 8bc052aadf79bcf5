-- The end of a run, node by node.
use Rattle.std.specs.Prelude.{ℕ, Bool, ◌&&◌, ◌||◌, List, [], option_to_list}
use Rattle.std.specs.List.{list_any}
use Rattle.fly_types.specs.declared.text.Text.{Text}
use Rattle.fly_rules.specs.Rules.{values_at}
use Rattle.fly_rules.specs.Standing.{blocked, is_blocked_standing}
use Rattle.fly_state.specs.declared.slots.ExecState.{ExecState}
use Rattle.fly_state.specs.Plans.{RunPlan, number_in, looks}
use Rattle.fly_state.specs.States.{phase_of, is_final, is_not_yet_started, is_skipped}
use Rattle.fly_state.specs.Standing.{standing_by}

-- the node is final, or would be blocked if all others that are not yet started were
abbrev pub rests : RunPlan → ExecState → ℕ → Bool
rests plan s i =
    is_final (phase_of s i)
    || (is_not_yet_started (phase_of s i)
    && is_blocked_standing (standing_by plan s i (values_at (λ u. blocked) (looks plan i))))

-- one of the ids is of a node that was skipped
abbrev pub skips_one : RunPlan → ExecState → List Text → Bool
skips_one plan s ids =
    list_any (λ id. list_any (λ i. is_skipped (phase_of s i)) (option_to_list (number_in plan [] id))) ids
