-- What comes of the moves of a Write on the current version.
use Rattle.std.specs.Prelude.{◌≡◌, ℕ, nat_lt, Bool, true, false, List, ◌++◌, map, filter_map, length, slice_get, Option, Some, None, option_to_list}
use Rattle.std.specs.List.{list_all}
use Rattle.fly_state.specs.declared.entries.Entry.{Entry}
use Rattle.fly_state.specs.declared.moves.Move.{Move}
use Rattle.fly_state.specs.declared.moves.Step.{Step}
use Rattle.fly_state.specs.declared.view.View.{View}
use Rattle.fly_state.specs.declared.effects.Effect.{Effect}
use Rattle.fly_state.specs.Moves.{effect_of, where_true}
use Rattle.fly_state.specs.Plans.{RunPlan}
use Rattle.fly_state.specs.Rounds.{state_after, cited_places}
use Rattle.fly_world.specs.declared.writes.Moved.{Moved}
use Rattle.fly_world.specs.declared.writes.Moved.TheVariants as moved
use Rattle.fly_world.specs.Steps.{bad_move, cited_move, cites_entries}
use Rattle.fly_world.specs.Store.{StoreLists}
use Rattle.fly_world.specs.World.{World}

-- the number of the first bad move, or the state after all of them
abbrev pub IsMoved : StoreLists → View → List Move → Moved → Type 0
IsMoved s v moves (moved.Bad index) = bad_move s.plan s.world v moves ≡ Some index
IsMoved s v moves (moved.To state) =
    (bad_move s.plan s.world v moves ≡ None) × (state ≡ state_after s.plan v (map (cited_move s.world) moves))

-- the effect of a move with the entries that it cites, where they are all there
abbrev pub cited_effect : RunPlan → World → View → Move → Option Effect
cited_effect plan w v m = where_true (cites_entries w m) (effect_of plan v (cited_move w m).entries m)

-- the entries that a step cites, or none where one is not there
abbrev pub IsCited : StoreLists → Step → Option (List Entry) → Type 0
IsCited s step (Some entries) =
    (list_all (λ place. nat_lt place (length s.world.entries)) (cited_places step) ≡ true)
    × (entries ≡ filter_map (slice_get s.world.entries) (cited_places step))
IsCited s step None = list_all (λ place. nat_lt place (length s.world.entries)) (cited_places step) ≡ false

-- the entry of the place was added, where one is cited and there; whether it is there
abbrev pub PushesCited : List Entry → Option ℕ → List Entry → List Entry → Bool → Type 0
PushesCited all place old new there =
    (new ≡ old ++ filter_map (slice_get all) (option_to_list place))
    × (there ≡ list_all (λ at. nat_lt at (length all)) (option_to_list place))
