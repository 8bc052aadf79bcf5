-- Types by their form.
use Rattle.std.specs.Prelude.{⊤}
use Rattle.fly_types.specs.declared.kinds.LiteralType.TheOpen.{LiteralType-F}
use Rattle.fly_types.specs.Layer.{TypeLayer}

-- a union
abbrev pub IsUnionType : TypeLayer → Type 0
IsUnionType (LiteralType-F.Union variants) = ⊤
IsUnionType _ = ⊥
