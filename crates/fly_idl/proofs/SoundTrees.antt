-- The content of a STRUCT that is read is sound.
use Rattle.std.proofs.Common.{◌≡◌, ℕ, zero, suc, ◌+◌, ◌≤◌, ◌<◌, ◌^◌, nat_lt, nat_abs, Bool, true, false, cond, ℤ, pos, List, [], ◌∷◌, length, map, nat_cmp, refl, sym, ap, subst, ◌∙◌, arith}
use Rattle.std.proofs.lemmas.Bool.{ltb-true}
use Rattle.std.proofs.lemmas.List.{length-map}
use Rattle.std.proofs.lemmas.List.Elements.{All-from_recursion}
use Rattle.std.specs.Prelude.{unwrap_or}
use Rattle.std.specs.List.{AllByRecursion}
use Rattle.std.specs.List.Sorted.{IsStrictlySortedBy}
use Rattle.std.specs.Cmp.Lexicographic.{slice_cmp}
use Rattle.serde_json.specs.Data.{Data, null, boolean, number, string, array, object, Members}
use Rattle.serde_json.specs.Find.{as_i64}
use Rattle.fly_types.specs.declared.text.Text.{Text}
use Rattle.fly_types.specs.declared.literals.Tree.{Tree, out-Tree}
use Rattle.fly_types.specs.declared.literals.Tree.TheVariants as trees
use Rattle.fly_types.specs.declared.literals.Tree.TheOpen.{Tree-F}
use Rattle.fly_types.specs.declared.literals.Tree.TheViews as views
use Rattle.fly_types.specs.declared.literals.Tree.TheFolds.{fold-roll-Tree}
use Rattle.fly_types.specs.Levels.{largest, tree_levels, tree_levels_by}
use Rattle.fly_types.specs.Sound.{IsShort, AreEntriesSound, IsExactWhole, IsObject, HasSoundTreeParts, IsSoundStruct}
use Rattle.fly_types.proofs.SoundLemmas.{HasSoundTreeParts-roll}
use Rattle.fly_values.specs.Fields.{members_in, listed, entries_of}
use Rattle.fly_values.specs.Scalars.{exact_value}
use Rattle.fly_values.specs.Trees.{plain_tree, tree_by, tree_at, struct_value, tree_depth}
use Rattle.fly_idl.proofs.Ordered.{IsOrdered, AreKeysInOrder, AreMembersOrdered, members_ordered, keys_ordered, items_ordered, entries_ordered, all-map, fronts-map}
use Rattle.fly_idl.proofs.Bounded.{IsDataShort, AreMembersShort, members_short, count_short, items_short, entries_short}

pub both-all : {A : Type 0} (P Q : A → Type 0) (xs : List A) → AllByRecursion P xs → AllByRecursion Q xs
    → AllByRecursion (λ x. P x × Q x) xs
both-all P Q [] p q = tt
both-all P Q (x ∷ xs) p q = ((p.0, q.0), both-all P Q xs p.1 q.1)

-- ---- levels

second-map : {A : Type 0} (f : A → ℕ) (es : List (Text × A))
    → map (λ (e : Text × ℕ). e.1) (map (λ (e : Text × A). (e.0, f e.1)) es) ≡ map (λ (e : Text × A). f e.1) es
second-map f [] = refl
second-map f (e ∷ es) = ap (λ ns. f e.1 ∷ ns) (second-map f es)

levels-list : (ts : List Tree) → tree_levels (trees.List ts) ≡ 1 + largest (map tree_levels ts)
levels-list ts = ap tree_levels (sym (views.rolls-List ts)) ∙ fold-roll-Tree ℕ tree_levels_by (Tree-F.List ts)

levels-object : (ms : List (Text × Tree)) → tree_levels (trees.Object ms) ≡ 1 + largest
    (map (λ (m : Text × Tree). tree_levels m.1) ms)
levels-object ms =
    ap tree_levels (sym (views.rolls-Object ms)) ∙ fold-roll-Tree ℕ tree_levels_by (Tree-F.Object ms)
    ∙ ap (λ ns. 1 + largest ns) (second-map tree_levels ms)

levels-null : tree_levels trees.Null ≡ 0
levels-null = ap tree_levels (sym views.rolls-Null) ∙ fold-roll-Tree ℕ tree_levels_by Tree-F.Null

levels-bool : (b : Bool) → tree_levels (trees.Bool b) ≡ 0
levels-bool b = ap tree_levels (sym (views.rolls-Bool b)) ∙ fold-roll-Tree ℕ tree_levels_by (Tree-F.Bool b)

levels-whole : (z : ℤ) → tree_levels (trees.Whole z) ≡ 0
levels-whole z = ap tree_levels (sym (views.rolls-Whole z)) ∙ fold-roll-Tree ℕ tree_levels_by (Tree-F.Whole z)

levels-text : (s : List ℕ) → tree_levels (trees.Text s) ≡ 0
levels-text s = ap tree_levels (sym (views.rolls-Text s)) ∙ fold-roll-Tree ℕ tree_levels_by (Tree-F.Text s)

pub largest-map : {A : Type 0} (f : A → ℕ) (most : ℕ) → ((a : A) → f a ≤ most) → (xs : List A) → largest
    (map f xs) ≤ most
largest-map f most h [] = omega arith
largest-map f most h (x ∷ xs) = omega (arith, h x, largest-map f most h xs)

pub map-twice : {A B C : Type 0} (f : A → B) (g : B → C) (xs : List A) → map g (map f xs) ≡ map (λ x. g (f x)) xs
map-twice f g [] = refl
map-twice f g (x ∷ xs) = ap (λ ys. g (f x) ∷ ys) (map-twice f g xs)

abbrev Fits : ℕ → Tree → Type 0
Fits most t = tree_levels t ≤ most

plain-fits : (most : ℕ) (d : Data) → Fits most (plain_tree d)
unfolding plain_tree
plain-fits most null = omega (arith, levels-null)
plain-fits most (boolean b) = omega (arith, levels-bool b)
plain-fits most (number x) = omega (arith, levels-whole (exact_value x))
plain-fits most (string s) = omega (arith, levels-text s)
plain-fits most (array ds) = omega (arith, levels-null)
plain-fits most (object ms) = omega (arith, levels-null)

module _ (most : ℕ) (of : Data → Tree) (each : (d : Data) → Fits most (of d)) where
  list-fits : (ds : List Data) → Fits (suc most) (trees.List (map of ds))
  list-fits ds =
      let below = largest-map (λ x. tree_levels (of x)) most each ds in
      let same = ap largest (map-twice of tree_levels ds) in
      omega (arith, levels-list (map of ds), same, below)

  object-fits : (es : List (Text × Data)) → Fits (suc most) (trees.Object
      (map (λ (e : Text × Data). (e.0, of e.1)) es))
  object-fits es =
      let below = largest-map (λ (e : Text × Data). tree_levels (of e.1)) most (λ e. each e.1) es in
      let same = ap largest (map-twice (λ (e : Text × Data). (e.0, of e.1))
      (λ (m : Text × Tree). tree_levels m.1) es) in
      omega (arith, levels-object (map (λ (e : Text × Data). (e.0, of e.1)) es), same, below)

  by-fits : (d : Data) → Fits (suc most) (tree_by of d)
  unfolding tree_by
  by-fits null = plain-fits (suc most) null
  by-fits (boolean b) = plain-fits (suc most) (boolean b)
  by-fits (number x) = plain-fits (suc most) (number x)
  by-fits (string s) = plain-fits (suc most) (string s)
  by-fits (array ds) = list-fits (listed ds)
  by-fits (object ms) = object-fits (entries_of ms)

tree-fits : (k : ℕ) (d : Data) → Fits k (tree_at k d)
unfolding tree_at
tree-fits zero d = plain-fits zero d
tree-fits (suc k) d = by-fits k (tree_at k) (tree-fits k) d

-- ---- parts

exact : (z : ℤ) (b : Bool) → nat_lt (nat_abs z) (2 ^ 53) ≡ b → IsExactWhole (cond b z (pos 0))
exact z true e = ltb-true (nat_abs z) (2 ^ 53) e
exact z false e = omega arith

module _ (n : ℕ) (small : n < 2 ^ 64) where
  abbrev pub IsKept : Data → Type 0
  IsKept d = IsDataShort n d × IsOrdered d

  -- the entries of a map, by what their values are
  pub entries-sound : {A : Type 0} (of : Data → A) (ms : Members) → length (entries_of ms) ≤ n → AreKeysInOrder ms
      → AreMembersShort n ms → AreEntriesSound (map (λ (e : Text × Data). (e.0, of e.1)) (entries_of ms))
  entries-sound {A} of ms few sorted short =
      let es = entries_of ms in
      let step : Text × Data → Text × A = λ e. (e.0, of e.1) in
      let long = length-map es step in (
        omega (arith, long, few, small),
        subst (IsStrictlySortedBy (slice_cmp nat_cmp)) (sym (fronts-map of es)) sorted,
        All-from_recursion (λ (e : Text × A). IsShort e.0) (map (λ (e : Text × Data). (e.0, of e.1)) es)
            (all-map (λ (e : Text × Data). (length e.0 ≤ n) × IsDataShort n e.1) (λ (e : Text × A). IsShort e.0)
            (λ (e : Text × Data). (e.0, of e.1)) (λ e h. omega (arith, h.0, small)) es (entries_short n ms short)),
      )

  -- what each entry keeps
  pub entries-kept : (ms : Members) → AreMembersShort n ms → AreMembersOrdered ms
      → AllByRecursion (λ (e : Text × Data). IsDataShort n e.1 × IsOrdered e.1) (entries_of ms)
  entries-kept ms short ordered =
      both-all (λ (e : Text × Data). IsDataShort n e.1) (λ (e : Text × Data). IsOrdered e.1) (entries_of ms)
      (weaker (entries_of ms) (entries_short n ms short)) (entries_ordered ms ordered)
    where
      weaker : (es : List (Text × Data)) → AllByRecursion (λ (e : Text × Data). (length e.0 ≤ n) × IsDataShort n
          e.1) es
          → AllByRecursion (λ (e : Text × Data). IsDataShort n e.1) es
      weaker [] h = tt
      weaker (e ∷ es) h = (h.0.1, weaker es h.1)

  sound-null : HasSoundTreeParts trees.Null
  sound-null = subst HasSoundTreeParts views.rolls-Null (HasSoundTreeParts-roll Tree-F.Null tt tt)

  plain-parts : (d : Data) → IsDataShort n d → HasSoundTreeParts (plain_tree d)
  unfolding plain_tree
  plain-parts null h = sound-null
  plain-parts (boolean b) h = subst HasSoundTreeParts (views.rolls-Bool b)
      (HasSoundTreeParts-roll (Tree-F.Bool b) tt tt)
  plain-parts (number x) h =
      let z = unwrap_or (as_i64 x) (pos 0) in
      subst HasSoundTreeParts (views.rolls-Whole (exact_value x))
      (HasSoundTreeParts-roll (Tree-F.Whole (exact_value x)) (exact z (nat_lt (nat_abs z) (2 ^ 53)) refl) tt)
  plain-parts (string s) h =
      subst HasSoundTreeParts (views.rolls-Text s) (HasSoundTreeParts-roll (Tree-F.Text s)
      (omega (arith, h, small)) tt)
  plain-parts (array ds) h = sound-null
  plain-parts (object ms) h = sound-null

  module _ (of : Data → Tree) (each : (d : Data) → IsKept d → HasSoundTreeParts (of d)) where
    object-parts : (ms : Members) → length (entries_of ms) ≤ n → AreKeysInOrder ms → AreMembersShort n ms
        → AreMembersOrdered ms → HasSoundTreeParts (trees.Object (map (λ (e : Text × Data). (e.0, of e.1))
        (entries_of ms)))
    object-parts ms few sorted short ordered =
        let entries = map (λ (e : Text × Data). (e.0, of e.1)) (entries_of ms) in
        subst HasSoundTreeParts (views.rolls-Object entries)
        (HasSoundTreeParts-roll (Tree-F.Object entries) (entries-sound of ms few sorted short)
        (all-map (λ (e : Text × Data). IsDataShort n e.1 × IsOrdered e.1) (λ (e : Text × Tree). HasSoundTreeParts e.1)
        (λ (e : Text × Data). (e.0, of e.1)) (λ e h. each e.1 h) (entries_of ms) (entries-kept ms short ordered)))

    by-parts : (d : Data) → IsKept d → HasSoundTreeParts (tree_by of d)
    unfolding tree_by
    by-parts null h = sound-null_by
      where
        sound-null_by : HasSoundTreeParts (plain_tree null)
        sound-null_by = plain-parts null tt
    by-parts (boolean b) h = plain-parts (boolean b) tt
    by-parts (number x) h = plain-parts (number x) h.0
    by-parts (string s) h = plain-parts (string s) h.0
    by-parts (array ds) h =
        let items = items_short n (array ds) h.0 in
        let long = length-map (listed ds) of in
        subst HasSoundTreeParts (views.rolls-List (map of (listed ds)))
        (HasSoundTreeParts-roll (Tree-F.List (map of (listed ds))) (omega (arith, long, items.0, small))
        (all-map IsKept HasSoundTreeParts of each (listed ds)
        (both-all (IsDataShort n) IsOrdered (listed ds) items.1 (items_ordered (array ds) h.1))))
    by-parts (object ms) h = object-parts ms h.0.0 h.1.0 h.0.1 h.1.1

  tree-parts : (k : ℕ) (d : Data) → IsKept d → HasSoundTreeParts (tree_at k d)
  unfolding tree_at
  tree-parts zero d h = plain-parts d h.0
  tree-parts (suc k) d h = by-parts (tree_at k) (tree-parts k) d h

  -- a STRUCT
  pub struct-sound : (d : Data) → IsKept d → IsSoundStruct (struct_value d)
  unfolding struct_value
  struct-sound d h =
      let es = entries_of (members_in d) in
      let entries = map (λ (e : Text × Data). (e.0, tree_at tree_depth e.1)) es in record {
        object = subst (λ t. IsObject (out-Tree t)) (views.rolls-Object entries)
            (subst IsObject (sym (views.out-roll-Tree (Tree-F.Object entries))) tt);
        parts = object-parts (tree_at tree_depth) (tree-parts tree_depth) (members_in d) (count_short n d h.0)
            (keys_ordered d h.1) (members_short n d h.0) (members_ordered d h.1);
        levels = object-fits tree_depth (tree_at tree_depth) (tree-fits tree_depth) es;
      }
