use Rattle.std.proofs.Common.{◌≡◌, map, ap, refl, ◌∙◌, string_bytes, arith}
use Rattle.std.proofs.lemmas.Grind.{common_steps}
use Rattle.serde_json.specs.View.{view}
use Rattle.fly_types.specs.declared.literals.Tree.TheVariants as trees
use Rattle.fly_values.specs.Trees.{tree_at}
use Rattle.fly_values.proofs.FieldLemmas.{each-entry}
use Rattle.fly_values.proofs.TreeLemmas.{tree_at-null, tree_at-bool, tree_at-number, tree_at-string, tree_at-array, tree_at-object, tree_at-no_array, tree_at-no_object}
use Rattle.fly_values.proofs.trees.+trees.Goals as goal

pub tree_from-returns-in-Null : goal.tree_from-returns-in-Null
tree_from-returns-in-Null t c = tree_at-null c.args.depth c.args.value c.in-Null.is

pub tree_from-returns-in-Bool : goal.tree_from-returns-in-Bool
tree_from-returns-in-Bool t c = tree_at-bool c.args.depth c.args.value _ c.in-Bool.is

pub tree_from-returns-in-Number : goal.tree_from-returns-in-Number
tree_from-returns-in-Number t c =
    c.whole_tree.ensures ∙ tree_at-number c.args.depth c.args.value _ c.in-Number.is

pub tree_from-returns-in-String : goal.tree_from-returns-in-String
tree_from-returns-in-String t c =
    ap trees.Text c.from_string.ensures.value ∙ tree_at-string c.args.depth c.args.value _ c.in-String.is

pub tree_from-returns-then-depth-eq0 : goal.tree_from-returns-then-depth-eq0
tree_from-returns-then-depth-eq0 t c = tree_at-no_array c.args.depth c.args.value _ c.if-depth-eq0.true c.in-Array.is

pub tree_from-returns-then-depth-eq0-2 : goal.tree_from-returns-then-depth-eq0-2
tree_from-returns-then-depth-eq0-2 t c =
    tree_at-no_object c.args.depth c.args.value _ c.if-depth-eq0-2.true c.in-Object.is

pub tree_from-returns-in_ok-trees_from-in-Array : goal.tree_from-returns-in_ok-trees_from-in-Array
tree_from-returns-in_ok-trees_from-in-Array t c =
    tree_at-array c.args.depth c.args.value _ _ c.if-depth-eq0.false c.in-Array.is c.in_ok-trees_from-in-Array.ensures

pub tree_from-returns-in_ok-members_from-in-Object : goal.tree_from-returns-in_ok-members_from-in-Object
tree_from-returns-in_ok-members_from-in-Object t c =
    tree_at-object c.args.depth c.args.value _ _ c.if-depth-eq0-2.false c.in-Object.is c.in_ok-members_from-in-Object.ensures

pub members_from-returns : goal.members_from-returns
members_from-returns t c =
    let of = tree_at c.args.depth in
    let whole : c.loop-name.yielded ≡ c.args.members.entries = grind (arith, common_steps) in
    c.from_vec.ensures.value ∙ c.loop-name.invariant.done ∙ ap (map (λ e. (string_bytes e.0, of (view e.1)))) whole
    ∙ each-entry (λ e. (e.0, of e.1)) _ _ refl
