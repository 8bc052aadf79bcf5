-- What the content of a STRUCT is as a value (protobuf's `Struct`).
use Rattle.std.specs.Prelude.{ℕ, zero, suc, map}
use Rattle.serde_json.specs.Data.{Data, boolean, number, string, array, object}
use Rattle.fly_types.specs.declared.literals.Tree.{Tree}
use Rattle.fly_types.specs.declared.literals.Tree.TheVariants as trees
use Rattle.fly_values.specs.Fields.{listed, entries_of, map_value}
use Rattle.fly_values.specs.Scalars.{exact_value}

-- a value without parts
unfoldable pub plain_tree : Data → Tree
plain_tree (boolean b) = trees.Bool b
plain_tree (number n) = trees.Whole (exact_value n)
plain_tree (string s) = trees.Text s
plain_tree _ = trees.Null

-- a value, by what its parts are
unfoldable pub tree_by : (Data → Tree) → Data → Tree
tree_by of (array ds) = trees.List (map of (listed ds))
tree_by of (object ms) = trees.Object (map (λ e. (e.0, of e.1)) (entries_of ms))
tree_by of d = plain_tree d

-- a value, where parts lie in each other no deeper than this
unfoldable pub tree_at : ℕ → Data → Tree
tree_at zero d = plain_tree d
tree_at (suc depth) d = tree_by (tree_at depth) d

-- how deep the parts of a STRUCT may lie in each other: it has at most 16 levels itself
abbrev pub tree_depth : ℕ
tree_depth = 15

-- a STRUCT, which is an object
unfoldable pub struct_value : Data → Tree
struct_value d = trees.Object (map_value (tree_at tree_depth) d)
