-- What makes canonical bytes fit for keys: different values have different bytes, and no value's bytes begin another's.
use Rattle.std.specs.Prelude.{◌≡◌, ℕ, List, [], ◌++◌}
use Rattle.fly_types.specs.declared.literals.LiteralMap.{LiteralMap}
use Rattle.fly_types.specs.Sound.{IsSoundMap}
use Rattle.fly_types.specs.Canonical.{map_bytes}

-- two sound maps with the same bytes are one map
abbrev pub HaveMapsOwnBytes : Type 0
HaveMapsOwnBytes = (a b : LiteralMap) → IsSoundMap a → IsSoundMap b → map_bytes a ≡ map_bytes b → a ≡ b

-- where the bytes of one sound value begin with the bytes of another, the two are one value, and nothing follows
abbrev pub IsPrefixFree : {X : Type 0} → (X → Type 0) → (X → List ℕ) → Type 0
IsPrefixFree {X} Sound bytes = (a b : X) (rest : List ℕ) → Sound a → Sound b → bytes b ≡ bytes a ++ rest → (a ≡ b) × (rest ≡ [])
