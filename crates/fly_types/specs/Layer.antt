-- One layer of a value: its variant and its fields, with the values that it holds as they are.
use Rattle.fly_types.specs.declared.kinds.LiteralType.{LiteralType}
use Rattle.fly_types.specs.declared.kinds.LiteralType.TheOpen.{LiteralType-F}
use Rattle.fly_types.specs.declared.literals.Literal.{Literal}
use Rattle.fly_types.specs.declared.literals.Literal.TheOpen.{Literal-F}
use Rattle.fly_types.specs.declared.literals.Tree.{Tree}
use Rattle.fly_types.specs.declared.literals.Tree.TheOpen.{Tree-F}

abbrev pub TypeLayer : Type 0
TypeLayer = LiteralType-F LiteralType

abbrev pub LiteralLayer : Type 0
LiteralLayer = Literal-F Literal

abbrev pub TreeLayer : Type 0
TreeLayer = Tree-F Tree
