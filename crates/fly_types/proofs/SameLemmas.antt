-- What the tests of equality decide.
pub use Rattle.fly_types.specs.Laws.{equal-Decides}
use Rattle.std.specs.Prelude.{◌≡◌, ◌↔◌, Bool, IsTrue}
use Rattle.std.specs.Bool.{Decides}
use Rattle.std.specs.Coded.{Coded}
use Rattle.std.proofs.lemmas.Bool.Decides.{same_from_decides}
use Rattle.fly_types.specs.declared.kinds.BlobType.{BlobType}
use Rattle.fly_types.specs.declared.kinds.LiteralType.{LiteralType}
use Rattle.fly_types.specs.declared.literals.Literal.{Literal}
use Rattle.fly_types.specs.declared.literals.LiteralMap.{LiteralMap}
use Rattle.fly_types.specs.declared.literals.Tree.{Tree}
use Rattle.fly_types.specs.declared.variable.Variable.{Variable}
use Rattle.fly_types.specs.declared.said.Said.{Said}
use Rattle.fly_types.specs.contracts.kinds.BlobType as form
use Rattle.fly_types.specs.contracts.kinds.LiteralType as type
use Rattle.fly_types.specs.contracts.literals.Literal as literal
use Rattle.fly_types.specs.contracts.literals.LiteralMap as map
use Rattle.fly_types.specs.contracts.literals.Tree as tree
use Rattle.fly_types.specs.contracts.variable.Variable as variable
use Rattle.fly_types.specs.contracts.said.Said as said
use Rattle.fly_types.specs.Same.{equal, same_form, same_type, same_tree, same_literal, same_map, same_variable, same_said}

-- an answer that is true exactly where the two are one is the test's
pub answers_equal : {A : Type 0} (c : Coded A) (a b : A) (r : Bool) → (IsTrue r ↔ (a ≡ b)) → r ≡ equal c a b
answers_equal c a b r h = same_from_decides r (equal c a b) h (equal-Decides c a b)

pub same_form-Decides : (a b : BlobType) → Decides (same_form a b) (a ≡ b)
unfolding same_form
same_form-Decides = equal-Decides form.the_row.coded

pub answers_same_form : (a b : BlobType) (r : Bool) → (IsTrue r ↔ (a ≡ b)) → r ≡ same_form a b
unfolding same_form
answers_same_form = answers_equal form.the_row.coded

pub same_type-Decides : (a b : LiteralType) → Decides (same_type a b) (a ≡ b)
unfolding same_type
same_type-Decides = equal-Decides type.the_row.coded

pub answers_same_type : (a b : LiteralType) (r : Bool) → (IsTrue r ↔ (a ≡ b)) → r ≡ same_type a b
unfolding same_type
answers_same_type = answers_equal type.the_row.coded

pub same_tree-Decides : (a b : Tree) → Decides (same_tree a b) (a ≡ b)
unfolding same_tree
same_tree-Decides = equal-Decides tree.the_row.coded

pub answers_same_tree : (a b : Tree) (r : Bool) → (IsTrue r ↔ (a ≡ b)) → r ≡ same_tree a b
unfolding same_tree
answers_same_tree = answers_equal tree.the_row.coded

pub same_literal-Decides : (a b : Literal) → Decides (same_literal a b) (a ≡ b)
unfolding same_literal
same_literal-Decides = equal-Decides literal.the_row.coded

pub answers_same_literal : (a b : Literal) (r : Bool) → (IsTrue r ↔ (a ≡ b)) → r ≡ same_literal a b
unfolding same_literal
answers_same_literal = answers_equal literal.the_row.coded

pub same_map-Decides : (a b : LiteralMap) → Decides (same_map a b) (a ≡ b)
unfolding same_map
same_map-Decides = equal-Decides map.the_row.coded

pub answers_same_map : (a b : LiteralMap) (r : Bool) → (IsTrue r ↔ (a ≡ b)) → r ≡ same_map a b
unfolding same_map
answers_same_map = answers_equal map.the_row.coded

pub same_variable-Decides : (a b : Variable) → Decides (same_variable a b) (a ≡ b)
unfolding same_variable
same_variable-Decides = equal-Decides variable.the_row.coded

pub answers_same_variable : (a b : Variable) (r : Bool) → (IsTrue r ↔ (a ≡ b)) → r ≡ same_variable a b
unfolding same_variable
answers_same_variable = answers_equal variable.the_row.coded

pub same_said-Decides : (a b : Said) → Decides (same_said a b) (a ≡ b)
unfolding same_said
same_said-Decides = equal-Decides said.the_row.coded

pub answers_same_said : (a b : Said) (r : Bool) → (IsTrue r ↔ (a ≡ b)) → r ≡ same_said a b
unfolding same_said
answers_same_said = answers_equal said.the_row.coded
