-- How many attempts a journal launches of a node, or of an item of it.
use Rattle.std.specs.Prelude.{ℕ, nat_eq, Bool, ◌&&◌, bytes_eq, count_by, Option}
use Rattle.std.specs.Option.{option_eq}
use Rattle.fly_types.specs.declared.text.Text.{Text}
use Rattle.fly_docs.specs.declared.attempt_name.AttemptName.{AttemptName}
use Rattle.fly_state.specs.Plans.{Path, same_path}
use Rattle.fly_world.specs.World.{World}
use Rattle.fly_world.specs.ReadOff.{launched_in}

-- the attempt is one of the node that has the path in the execution of the name, or of its item where one is named
abbrev pub is_attempt_of : Text → Path → Option ℕ → AttemptName → Bool
is_attempt_of exec path item name =
    bytes_eq name.exec exec && (same_path name.path path && option_eq nat_eq name.item item)

-- how many entries launch an attempt of it
abbrev pub launch_count : World → Text → Path → Option ℕ → ℕ
launch_count w exec path item = count_by (is_attempt_of exec path item) (launched_in w.entries)
