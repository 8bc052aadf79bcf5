-- Nothing is found in the JSON of a STRUCT.
use Rattle.std.proofs.Common.{◌≡◌, ℕ, zero, suc, ◌+◌, ◌≤◌, ◌<◌, ◌^◌, nat_lt, true, cond, ℤ, pos, negsuc, List, [], ◌∷◌, map, Option, None, refl, ap, ap₂, ◌∙◌, arith}
use Rattle.std.proofs.lemmas.Bool.Decides.{nat_tests}
use Rattle.std.specs.List.{AllByRecursion}
use Rattle.std.specs.Option.{option_or}
use Rattle.serde_json.specs.Data.{Data}
use Rattle.serde_json.specs.Find.{of_integer}
use Rattle.serde_json.specs.View.{items_of}
use Rattle.fly_types.specs.declared.text.Text.{Text}
use Rattle.fly_types.specs.declared.literals.Tree.{Tree, out-Tree}
use Rattle.fly_types.specs.declared.literals.Tree.TheOpen.{Tree-F}
use Rattle.fly_types.specs.Layer.{TreeLayer}
use Rattle.fly_types.specs.Levels.{max_levels, largest, tree_levels}
use Rattle.fly_types.specs.Sound.{IsExactWhole, HasSoundTreeParts, IsSoundStruct}
use Rattle.fly_types.proofs.TreeTells.{IsSoundLayer, sound_layer}
use Rattle.fly_schema.specs.declared.fault.DocKind.TheVariants.{TooDeep}
use Rattle.fly_schema.specs.Places.{Fault, inside, index, fault_here}
use Rattle.fly_schema.specs.Structs.{number_fault, struct_fault, struct_items_fault, struct_members_fault}
use Rattle.fly_writers.specs.Literals.{tree_json}
use Rattle.fly_readback.proofs.Messages.{as_members, map-written}
use Rattle.fly_readback.proofs.ReadTrees.{of_layer, tree_json-out, layer_levels, tree_levels-out, entries-sorted}

exact-clear : (z : ℤ) → IsExactWhole z → number_fault (of_integer z) ≡ None
exact-clear (pos n) h = let small : nat_lt n (2 ^ 53) ≡ true = grind (arith, nat_tests, h) in rw small refl
exact-clear (negsuc n) h = let small : nat_lt (suc n) (2 ^ 53) ≡ true = grind (arith, nat_tests, h) in rw small refl

-- the JSON of each member under its name
abbrev entries : List (Text × Tree) → List (List ℕ × Data)
entries ms = map (λ (m : Text × Tree). (m.0, tree_json m.1)) ms

if_within : (levels : ℕ) (found : Option Fault) → levels < max_levels → found ≡ None
    → cond (nat_lt levels max_levels) found (fault_here TooDeep) ≡ None
if_within levels found h e =
    let within : nat_lt levels max_levels ≡ true = grind (arith, nat_tests, h) in
    ap (λ b. cond b found (fault_here TooDeep)) within ∙ e

module _ (k : ℕ) (each : (t : Tree) (levels : ℕ) → HasSoundTreeParts t → tree_levels t ≤ k
    → tree_levels t + levels ≤ 16 → struct_fault (tree_json t) levels ≡ None) where
  items-clear : (ts : List Tree) (levels place : ℕ) → AllByRecursion HasSoundTreeParts ts
      → largest (map tree_levels ts) ≤ k → largest (map tree_levels ts) + levels ≤ 16
      → struct_items_fault (items_of (map tree_json ts)) levels place ≡ None
  unfolding struct_fault
  items-clear [] levels place p h fits = refl
  items-clear (t ∷ ts) levels place p h fits =
      ap₂ option_or (ap (inside (index place)) (each t levels p.0 (omega (arith, h)) (omega (arith, fits))))
      (items-clear ts levels (place + 1) p.1 (omega (arith, h)) (omega (arith, fits)))

  members-clear : (ms : List (Text × Tree)) (levels place : ℕ)
      → AllByRecursion (λ (m : Text × Tree). HasSoundTreeParts m.1) ms
      → largest (map (λ (m : Text × Tree). tree_levels m.1) ms) ≤ k
      → largest (map (λ (m : Text × Tree). tree_levels m.1) ms) + levels ≤ 16
      → struct_members_fault (as_members (entries ms)) levels place ≡ None
  unfolding struct_fault
  members-clear [] levels place p h fits = refl
  members-clear (m ∷ ms) levels place p h fits =
      ap₂ option_or (ap (inside (index place)) (each m.1 levels p.0 (omega (arith, h)) (omega (arith, fits))))
      (members-clear ms levels (place + 1) p.1 (omega (arith, h)) (omega (arith, fits)))

  layer-clear : (z : TreeLayer) (levels : ℕ) → IsSoundLayer z → layer_levels z ≤ suc k
      → layer_levels z + levels ≤ 16 → struct_fault (of_layer z) levels ≡ None
  unfolding struct_fault
  layer-clear Tree-F.Null levels p h fits = refl
  layer-clear (Tree-F.Bool value) levels p h fits = refl
  layer-clear (Tree-F.Whole value) levels p h fits = exact-clear value p.0
  layer-clear (Tree-F.Text text) levels p h fits = refl
  layer-clear (Tree-F.List ts) levels p h fits =
      if_within levels _ (omega (arith, fits))
      (items-clear ts (levels + 1) 0 p.1 (omega (arith, h)) (omega (arith, fits)))
  layer-clear (Tree-F.Object ms) levels p h fits =
      if_within levels _ (omega (arith, fits))
      (ap (λ x. struct_members_fault x (levels + 1) 0) (map-written (entries ms) (entries-sorted ms p.0.1))
      ∙ members-clear ms (levels + 1) 0 p.1 (omega (arith, h)) (omega (arith, fits)))

flat-clear : (z : TreeLayer) (levels : ℕ) → IsSoundLayer z → layer_levels z ≤ 0
    → struct_fault (of_layer z) levels ≡ None
unfolding struct_fault
flat-clear Tree-F.Null levels p h = refl
flat-clear (Tree-F.Bool value) levels p h = refl
flat-clear (Tree-F.Whole value) levels p h = exact-clear value p.0
flat-clear (Tree-F.Text text) levels p h = refl
flat-clear (Tree-F.List ts) levels p h = absurd (omega (arith, h))
flat-clear (Tree-F.Object ms) levels p h = absurd (omega (arith, h))

-- nothing is found in a tree that lies within the levels
pub tree-clear : (k : ℕ) (t : Tree) (levels : ℕ) → HasSoundTreeParts t → tree_levels t ≤ k
    → tree_levels t + levels ≤ 16 → struct_fault (tree_json t) levels ≡ None
tree-clear zero t levels p h fits =
    ap (λ d. struct_fault d levels) (tree_json-out t)
    ∙ flat-clear (out-Tree t) levels (sound_layer t p) (omega (arith, h, tree_levels-out t))
tree-clear (suc k) t levels p h fits =
    ap (λ d. struct_fault d levels) (tree_json-out t)
    ∙ layer-clear k (tree-clear k) (out-Tree t) levels (sound_layer t p) (omega (arith, h, tree_levels-out t))
    (omega (arith, fits, tree_levels-out t))

pub struct-clear : (t : Tree) → IsSoundStruct t → struct_fault (tree_json t) 0 ≡ None
struct-clear t s = tree-clear 16 t 0 s.parts s.levels (omega (arith, s.levels))
