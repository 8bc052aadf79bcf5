-- The types to which literals are converted and fitted.
use Rattle.std.specs.Prelude.{◌+◌, ◌≤◌}
use Rattle.fly_types.specs.declared.kinds.LiteralType.{LiteralType}
use Rattle.fly_types.specs.Levels.{max_levels, type_levels}
use Rattle.fly_types.specs.Sound.{HasSoundTypeParts}

-- a sound type, or a collection of one: a literal of it, and each variant in it, is within the limit on levels
pub record IsTarget (t : LiteralType) : Type 0 where
  pub parts : HasSoundTypeParts t
  pub levels : type_levels t ≤ max_levels + 1
