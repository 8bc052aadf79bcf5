-- The content of a STRUCT, a step at a time.
use Rattle.std.proofs.Common.{◌≡◌, ℕ, zero, suc, ◌-◌, ◌≢◌, Bool, List, map, String, Vec, Global, BTreeMap, string_bytes, refl, sym, ap, ◌∙◌, arith, rules}
use Rattle.serde_json.specs.Data.{Num, null, boolean, number, string, array, object, Items, Members}
use Rattle.serde_json.specs.View.{view, number_view, items_view, members_view}
use Rattle.serde_json.specs.declared.number.Number.{Number}
use Rattle.serde_json.specs.declared.value.Value.{Value, the_lemmas}
use Rattle.serde_json.specs.declared.value.Value as value
use Rattle.serde_json.proofs.Views.{view-Array, view-Object}
use Rattle.fly_types.specs.declared.text.Text.{Text}
use Rattle.fly_types.specs.declared.literals.Tree.{Tree}
use Rattle.fly_types.specs.declared.literals.Tree.TheVariants as trees
use Rattle.fly_values.specs.Fields.{listed, entries_of}
use Rattle.fly_values.specs.Scalars.{exact_value}
use Rattle.fly_values.specs.Trees.{plain_tree, tree_by, tree_at}
use Rattle.fly_values.proofs.FieldLemmas.{each-item, listed_items}

view-Null : view value.Null ≡ null
view-Null = search (rules, the_lemmas)

view-Bool : (b : Bool) → view (value.Bool b) ≡ boolean b
view-Bool b = search (rules, the_lemmas)

view-Number : (x : Number) → view (value.Number x) ≡ number (number_view x)
view-Number x = search (rules, the_lemmas)

view-String : (s : String Global) → view (value.String s) ≡ string (string_bytes s)
view-String s = search (rules, the_lemmas)

null-at : (n : ℕ) → tree_at n null ≡ trees.Null
unfolding tree_at tree_by plain_tree
null-at zero = refl
null-at (suc n) = refl

bool-at : (n : ℕ) (b : Bool) → tree_at n (boolean b) ≡ trees.Bool b
unfolding tree_at tree_by plain_tree
bool-at zero b = refl
bool-at (suc n) b = refl

number-at : (n : ℕ) (x : Num) → tree_at n (number x) ≡ trees.Whole (exact_value x)
unfolding tree_at tree_by plain_tree
number-at zero x = refl
number-at (suc n) x = refl

string-at : (n : ℕ) (s : List ℕ) → tree_at n (string s) ≡ trees.Text s
unfolding tree_at tree_by plain_tree
string-at zero s = refl
string-at (suc n) s = refl

pub tree_at-null : (n : ℕ) (v : Value) → v ≡ value.Null → trees.Null ≡ tree_at n (view v)
tree_at-null n v e = sym (ap (λ y. tree_at n (view y)) e ∙ ap (tree_at n) view-Null ∙ null-at n)

pub tree_at-bool : (n : ℕ) (v : Value) (b : Bool) → v ≡ value.Bool b → trees.Bool b ≡ tree_at n (view v)
tree_at-bool n v b e = sym (ap (λ x. tree_at n (view x)) e ∙ ap (tree_at n) (view-Bool b) ∙ bool-at n b)

pub tree_at-number : (n : ℕ) (v : Value) (x : Number) → v ≡ value.Number x
    → trees.Whole (exact_value (number_view x)) ≡ tree_at n (view v)
tree_at-number n v x e = sym (ap (λ y. tree_at n (view y)) e ∙ ap (tree_at n) (view-Number x) ∙ number-at n (number_view x))

pub tree_at-string : (n : ℕ) (v : Value) (s : String Global) → v ≡ value.String s
    → trees.Text (string_bytes s) ≡ tree_at n (view v)
tree_at-string n v s e = sym (ap (λ y. tree_at n (view y)) e ∙ ap (tree_at n) (view-String s) ∙ string-at n (string_bytes s))

array-at : (n : ℕ) (ds : Items) → n ≢ 0 → tree_at n (array ds) ≡ trees.List (map (tree_at (n - 1)) (listed ds))
unfolding tree_at tree_by
array-at zero ds e = absurd (e refl)
array-at (suc n) ds e = let same : suc n - 1 ≡ n = omega arith in rw same refl

object-at : (n : ℕ) (ms : Members) → n ≢ 0
    → tree_at n (object ms) ≡ trees.Object (map (λ e. (e.0, tree_at (n - 1) e.1)) (entries_of ms))
unfolding tree_at tree_by
object-at zero ms e = absurd (e refl)
object-at (suc n) ms e = let same : suc n - 1 ≡ n = omega arith in rw same refl

pub tree_at-array : (n : ℕ) (v : Value) (vs : Vec Value Global) (ts : List Tree) → n ≢ 0 → v ≡ value.Array vs
    → ts ≡ map (λ x. tree_at (n - 1) (view x)) vs.items → trees.List ts ≡ tree_at n (view v)
tree_at-array n v vs ts ne e h =
    let made = h ∙ each-item (tree_at (n - 1)) vs.items _ (sym (listed_items vs.items)) in
    ap trees.List made
    ∙ sym (ap (λ y. tree_at n (view y)) e ∙ ap (tree_at n) (view-Array vs) ∙ array-at n (items_view vs.items) ne)

pub tree_at-object : (n : ℕ) (v : Value) (m : BTreeMap (String Global) Value) (ts : List (Text × Tree)) → n ≢ 0
    → v ≡ value.Object m → ts ≡ map (λ e. (e.0, tree_at (n - 1) e.1)) (entries_of (members_view m.entries))
    → trees.Object ts ≡ tree_at n (view v)
tree_at-object n v m ts ne e h =
    ap trees.Object h
    ∙ sym (ap (λ y. tree_at n (view y)) e ∙ ap (tree_at n) (view-Object m) ∙ object-at n (members_view m.entries) ne)

array-plain : (n : ℕ) (ds : Items) → n ≡ 0 → tree_at n (array ds) ≡ trees.Null
unfolding tree_at plain_tree
array-plain zero ds e = refl
array-plain (suc n) ds e = cc

object-plain : (n : ℕ) (ms : Members) → n ≡ 0 → tree_at n (object ms) ≡ trees.Null
unfolding tree_at plain_tree
object-plain zero ms e = refl
object-plain (suc n) ms e = cc

pub tree_at-no_array : (n : ℕ) (v : Value) (vs : Vec Value Global) → n ≡ 0 → v ≡ value.Array vs → trees.Null ≡ tree_at n (view v)
tree_at-no_array n v vs z e =
    sym (ap (λ y. tree_at n (view y)) e ∙ ap (tree_at n) (view-Array vs) ∙ array-plain n (items_view vs.items) z)

pub tree_at-no_object : (n : ℕ) (v : Value) (m : BTreeMap (String Global) Value) → n ≡ 0 → v ≡ value.Object m
    → trees.Null ≡ tree_at n (view v)
tree_at-no_object n v m z e =
    sym (ap (λ y. tree_at n (view y)) e ∙ ap (tree_at n) (view-Object m) ∙ object-plain n (members_view m.entries) z)
