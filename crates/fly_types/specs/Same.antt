-- What `==` answers on literals, their types, and what holds them: whether the two are one.
use Rattle.std.specs.Prelude.{Bool, true, false, ◌&&◌, nat_eq}
use Rattle.std.specs.Coded.{Coded}
use base.Stored.{Gv, gnil, gnum, gcons}
use Rattle.fly_types.specs.declared.kinds.BlobType.{BlobType}
use Rattle.fly_types.specs.declared.kinds.LiteralType.{LiteralType}
use Rattle.fly_types.specs.declared.literals.Literal.{Literal}
use Rattle.fly_types.specs.declared.literals.LiteralMap.{LiteralMap}
use Rattle.fly_types.specs.declared.literals.Tree.{Tree}
use Rattle.fly_types.specs.declared.variable.Variable.{Variable}
use Rattle.fly_types.specs.declared.said.Said.{Said}
use Rattle.fly_types.specs.contracts.kinds.BlobType as form
use Rattle.fly_types.specs.contracts.kinds.LiteralType as type
use Rattle.fly_types.specs.contracts.literals.Literal as literal
use Rattle.fly_types.specs.contracts.literals.LiteralMap as map
use Rattle.fly_types.specs.contracts.literals.Tree as tree
use Rattle.fly_types.specs.contracts.variable.Variable as variable
use Rattle.fly_types.specs.contracts.said.Said as said

-- whether two codes are one: a code is empty, a number, or a pair of codes
unfoldable pub same_code : Gv → Gv → Bool
same_code gnil gnil = true
same_code gnil (gnum n) = false
same_code gnil (gcons c d) = false
same_code (gnum m) gnil = false
same_code (gnum m) (gnum n) = nat_eq m n
same_code (gnum m) (gcons c d) = false
same_code (gcons a b) gnil = false
same_code (gcons a b) (gnum n) = false
same_code (gcons a b) (gcons c d) = same_code a c && same_code b d

-- whether two values are one, which they are where their codes are
unfoldable pub equal : {A : Type 0} → Coded A → A → A → Bool
equal c a b = same_code (c.code a) (c.code b)

-- whether two forms of blobs are one
unfoldable pub same_form : BlobType → BlobType → Bool
same_form = equal form.the_row.coded

-- whether two types are one
unfoldable pub same_type : LiteralType → LiteralType → Bool
same_type = equal type.the_row.coded

-- whether two contents of a STRUCT are one
unfoldable pub same_tree : Tree → Tree → Bool
same_tree = equal tree.the_row.coded

-- whether two literals are one
unfoldable pub same_literal : Literal → Literal → Bool
same_literal = equal literal.the_row.coded

-- whether two maps of literals are one
unfoldable pub same_map : LiteralMap → LiteralMap → Bool
same_map = equal map.the_row.coded

-- whether two variables are one
unfoldable pub same_variable : Variable → Variable → Bool
same_variable = equal variable.the_row.coded

-- whether two reports of a child are one
unfoldable pub same_said : Said → Said → Bool
same_said = equal said.the_row.coded
