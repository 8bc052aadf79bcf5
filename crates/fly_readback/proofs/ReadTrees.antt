-- The JSON of the content of a STRUCT stands for that content.
use Rattle.std.proofs.Common.{◌≡◌, ℕ, zero, suc, ◌+◌, ◌≤◌, ◌<◌, ◌^◌, nat_lt, Bool, true, false, cond, ℤ, pos, negsuc, List, [], ◌∷◌, map, Some, nat_cmp, refl, sym, ap, ap₂, subst, ◌∙◌, arith}
use Rattle.std.proofs.lemmas.Bool.Decides.{nat_tests}
use Rattle.std.specs.List.{AllByRecursion}
use Rattle.std.specs.List.Sorted.{IsStrictlySortedBy}
use Rattle.std.specs.Cmp.Lexicographic.{slice_cmp}
use Rattle.serde_json.specs.Data.{Data, no_members}
use Rattle.serde_json.specs.Find.{of_integer}
use Rattle.fly_types.specs.declared.text.Text.{Text}
use Rattle.fly_types.specs.declared.literals.Tree.{Tree, roll-Tree, out-Tree}
use Rattle.fly_types.specs.declared.literals.Tree.TheVariants as trees
use Rattle.fly_types.specs.declared.literals.Tree.TheOpen.{Tree-F}
use Rattle.fly_types.specs.declared.literals.Tree.TheViews as views
use Rattle.fly_types.specs.declared.literals.Tree.TheFolds.{fold_out-Tree, map-Tree}
use Rattle.fly_types.specs.Layer.{TreeLayer}
use Rattle.fly_types.specs.Levels.{largest, tree_levels, tree_levels_by}
use Rattle.fly_types.specs.Sound.{IsExactWhole, AreNamesSorted, HasSoundTreeParts, IsObject, IsSoundStruct}
use Rattle.fly_types.proofs.TreeTells.{IsSoundLayer, sound_layer}
use Rattle.fly_values.specs.Fields.{unless_null, entries_of}
use Rattle.fly_values.specs.Scalars.{exact_value}
use Rattle.fly_values.specs.Trees.{plain_tree, tree_by, tree_at, tree_depth, struct_value}
use Rattle.fly_writers.specs.Json.{with_fields, as_fields}
use Rattle.fly_writers.specs.Literals.{tree_json_by, tree_json}
use Rattle.fly_readback.proofs.Messages.{listed_of, AreSorted, entries-members, map-written}

-- ---- numbers

exact_if : (b : Bool) (z : ℤ) → b ≡ true → cond b z (pos 0) ≡ z
exact_if true z e = refl
exact_if false z e = cc

small_pos : (n : ℕ) → n < 2 ^ 53 → exact_value (of_integer (pos n)) ≡ pos n
small_pos n h =
    let wide : nat_lt n (2 ^ 63) ≡ true = grind (arith, nat_tests, h) in
    let small : nat_lt n (2 ^ 53) ≡ true = grind (arith, nat_tests, h) in
    rw wide (rw small refl)

small_negative : (n : ℕ) → suc n < 2 ^ 53 → exact_value (of_integer (negsuc n)) ≡ negsuc n
small_negative n h =
    let small : nat_lt (suc n) (2 ^ 53) ≡ true = grind (arith, nat_tests, h) in
    rw small refl

whole-read : (z : ℤ) → IsExactWhole z → exact_value (of_integer z) ≡ z
whole-read (pos n) h = small_pos n h
whole-read (negsuc n) h = small_negative n h

-- ---- one layer

abbrev pub of_layer : TreeLayer → Data
of_layer z = tree_json_by (map-Tree Tree Data tree_json z)

pub tree_json-out : (t : Tree) → tree_json t ≡ of_layer (out-Tree t)
unfolding tree_json
tree_json-out t = fold_out-Tree Data tree_json_by t

second-map : {A : Type 0} (f : A → ℕ) (es : List (Text × A))
    → map (λ (e : Text × ℕ). e.1) (map (λ (e : Text × A). (e.0, f e.1)) es) ≡ map (λ (e : Text × A). f e.1) es
second-map f [] = refl
second-map f (e ∷ es) = ap (λ ns. f e.1 ∷ ns) (second-map f es)

abbrev pub layer_levels : TreeLayer → ℕ
layer_levels (Tree-F.List ts) = 1 + largest (map tree_levels ts)
layer_levels (Tree-F.Object ms) = 1 + largest (map (λ (m : Text × Tree). tree_levels m.1) ms)
layer_levels _ = 0

levels-layer : (z : TreeLayer) → tree_levels_by (map-Tree Tree ℕ tree_levels z) ≡ layer_levels z
levels-layer Tree-F.Null = refl
levels-layer (Tree-F.Bool value) = refl
levels-layer (Tree-F.Whole value) = refl
levels-layer (Tree-F.Text text) = refl
levels-layer (Tree-F.List ts) = refl
levels-layer (Tree-F.Object ms) = ap (λ ns. 1 + largest ns) (second-map tree_levels ms)

pub tree_levels-out : (t : Tree) → tree_levels t ≡ layer_levels (out-Tree t)
tree_levels-out t = fold_out-Tree ℕ tree_levels_by t ∙ levels-layer (out-Tree t)

-- the entries of an object have the names of its members
names-kept : (ms : List (Text × Tree))
    → map (λ (e : List ℕ × Data). e.0) (map (λ (m : Text × Tree). (m.0, tree_json m.1)) ms)
    ≡ map (λ (m : Text × Tree). m.0) ms
names-kept [] = refl
names-kept (m ∷ ms) = ap (λ rest. m.0 ∷ rest) (names-kept ms)

pub entries-sorted : (ms : List (Text × Tree)) → AreNamesSorted ms → AreSorted (map (λ (m : Text × Tree).
    (m.0, tree_json m.1)) ms)
entries-sorted ms h = subst (IsStrictlySortedBy (slice_cmp nat_cmp)) (sym (names-kept ms)) h

pub object-entries : (ms : List (Text × Tree)) → AreNamesSorted ms
    → entries_of (with_fields no_members (as_fields (map (λ (m : Text × Tree). (m.0, tree_json m.1)) ms)))
    ≡ map (λ (m : Text × Tree). (m.0, tree_json m.1)) ms
object-entries ms h =
    let es = map (λ (m : Text × Tree). (m.0, tree_json m.1)) ms in
    ap entries_of (map-written es (entries-sorted ms h)) ∙ entries-members es

module _ (of : Data → Tree) (n : ℕ)
    (each : (t : Tree) → HasSoundTreeParts t → tree_levels t ≤ n → of (tree_json t) ≡ t) where
  pub all-read : (ts : List Tree) → AllByRecursion HasSoundTreeParts ts → largest (map tree_levels ts) ≤ n
      → map of (map tree_json ts) ≡ ts
  all-read [] p h = refl
  all-read (t ∷ ts) p h = ap₂ (λ x xs. x ∷ xs) (each t p.0 (omega (arith, h))) (all-read ts p.1 (omega (arith, h)))

  pub members-read : (ms : List (Text × Tree)) → AllByRecursion (λ (m : Text × Tree). HasSoundTreeParts m.1) ms
      → largest (map (λ (m : Text × Tree). tree_levels m.1) ms) ≤ n
      → map (λ (e : List ℕ × Data). (e.0, of e.1)) (map (λ (m : Text × Tree). (m.0, tree_json m.1)) ms) ≡ ms
  members-read [] p h = refl
  members-read (m ∷ ms) p h =
      ap₂ (λ x xs. (m.0, x) ∷ xs) (each m.1 p.0 (omega (arith, h))) (members-read ms p.1 (omega (arith, h)))

  layer-read : (z : TreeLayer) → IsSoundLayer z → layer_levels z ≤ suc n → tree_by of (of_layer z) ≡ roll-Tree z
  unfolding tree_by plain_tree
  layer-read Tree-F.Null p h = sym views.rolls-Null
  layer-read (Tree-F.Bool value) p h = sym (views.rolls-Bool value)
  layer-read (Tree-F.Whole value) p h = ap trees.Whole (whole-read value p.0) ∙ sym (views.rolls-Whole value)
  layer-read (Tree-F.Text text) p h = sym (views.rolls-Text text)
  layer-read (Tree-F.List ts) p h =
      ap (λ ds. trees.List (map of ds)) (listed_of (map tree_json ts))
      ∙ ap trees.List (all-read ts p.1 (omega (arith, h))) ∙ sym (views.rolls-List ts)
  layer-read (Tree-F.Object ms) p h =
      ap (λ es. trees.Object (map (λ (e : List ℕ × Data). (e.0, of e.1)) es)) (object-entries ms p.0.1)
      ∙ ap trees.Object (members-read ms p.1 (omega (arith, h))) ∙ sym (views.rolls-Object ms)

plain-read : (z : TreeLayer) → IsSoundLayer z → layer_levels z ≤ 0 → plain_tree (of_layer z) ≡ roll-Tree z
unfolding plain_tree
plain-read Tree-F.Null p h = sym views.rolls-Null
plain-read (Tree-F.Bool value) p h = sym (views.rolls-Bool value)
plain-read (Tree-F.Whole value) p h = ap trees.Whole (whole-read value p.0) ∙ sym (views.rolls-Whole value)
plain-read (Tree-F.Text text) p h = sym (views.rolls-Text text)
plain-read (Tree-F.List ts) p h = absurd (omega (arith, h))
plain-read (Tree-F.Object ms) p h = absurd (omega (arith, h))

-- ---- any tree

pub tree-read : (k : ℕ) (t : Tree) → HasSoundTreeParts t → tree_levels t ≤ k → tree_at k (tree_json t) ≡ t
unfolding tree_at
tree-read zero t p h =
    ap plain_tree (tree_json-out t)
    ∙ plain-read (out-Tree t) (sound_layer t p) (omega (arith, h, tree_levels-out t)) ∙ views.roll-out-Tree t
tree-read (suc k) t p h =
    ap (tree_by (tree_at k)) (tree_json-out t)
    ∙ layer-read (tree_at k) k (tree-read k) (out-Tree t) (sound_layer t p) (omega (arith, h, tree_levels-out t))
    ∙ views.roll-out-Tree t

-- ---- a STRUCT

there : (z : TreeLayer) → IsObject z → unless_null (of_layer z) ≡ Some (of_layer z)
there Tree-F.Null o = absurd o
there (Tree-F.Bool value) o = absurd o
there (Tree-F.Whole value) o = absurd o
there (Tree-F.Text text) o = absurd o
there (Tree-F.List ts) o = absurd o
there (Tree-F.Object ms) o = refl

pub tree-there : (t : Tree) → IsObject (out-Tree t) → unless_null (tree_json t) ≡ Some (tree_json t)
tree-there t o = subst (λ d. unless_null d ≡ Some d) (sym (tree_json-out t)) (there (out-Tree t) o)

struct-layer : (z : TreeLayer) → IsObject z → IsSoundLayer z → layer_levels z ≤ 16
    → struct_value (of_layer z) ≡ roll-Tree z
unfolding struct_value
struct-layer Tree-F.Null o p h = absurd o
struct-layer (Tree-F.Bool value) o p h = absurd o
struct-layer (Tree-F.Whole value) o p h = absurd o
struct-layer (Tree-F.Text text) o p h = absurd o
struct-layer (Tree-F.List ts) o p h = absurd o
struct-layer (Tree-F.Object ms) o p h =
    ap (λ es. trees.Object (map (λ (e : List ℕ × Data). (e.0, tree_at tree_depth e.1)) es))
    (object-entries ms p.0.1)
    ∙ ap trees.Object (members-read (tree_at tree_depth) tree_depth (tree-read tree_depth) ms p.1 (omega (arith, h)))
    ∙ sym (views.rolls-Object ms)

-- the JSON of a STRUCT stands for it
pub struct-read : (t : Tree) → IsSoundStruct t → struct_value (tree_json t) ≡ t
struct-read t s =
    ap struct_value (tree_json-out t)
    ∙ struct-layer (out-Tree t) s.object (sound_layer t s.parts) (omega (arith, s.levels, tree_levels-out t))
    ∙ views.roll-out-Tree t
