-- The canonical bytes of a STRUCT's content are read one way.
use Rattle.std.proofs.Common.{◌≡◌, ℕ, List, [], ◌∷◌, ◌++◌, refl, sym, ◌∙◌, ap, subst, arith, map}
use Rattle.std.specs.Prelude.{⊤, ℤ, pos, negsuc, FitsSigned}
use Rattle.std.specs.Int.{w64}
use Rattle.std.specs.List.{AllByRecursion}
use Rattle.fly_types.specs.declared.text.Text.{Text}
use Rattle.fly_types.specs.declared.literals.Tree.{Tree, roll-Tree, out-Tree}
use Rattle.fly_types.specs.declared.literals.Tree.TheOpen.{Tree-F}
use Rattle.fly_types.specs.declared.literals.Tree.TheViews.{roll-out-Tree, out-roll-Tree}
use Rattle.fly_types.specs.declared.literals.Tree.TheFolds.{ind-Tree, map-Tree, every_here-Tree, every_held-Tree}
use Rattle.fly_types.specs.Layer.{TreeLayer}
use Rattle.fly_types.specs.Sound.{IsTreeLayerSound, HasSoundTreeParts, IsExactWhole}
use Rattle.fly_types.specs.Canonical.{tree_bytes}
use Rattle.fly_types.proofs.Layers.{tree_layer_bytes, tree_bytes-roll}
use Rattle.fly_types.proofs.Tells.{Tells, heads, tails, flag_bytes-tells, signed_bytes-tells_8, text_bytes-tells, all-tell, IsEntry, entry_of, entries-tell, are_entries}

exact_fits : (z : ℤ) → IsExactWhole z → FitsSigned w64 z
exact_fits (pos n) h = record { sfits = omega (arith, h) }
exact_fits (negsuc n) h = record { sfits = omega (arith, h) }

-- the property holds of the trees that the layer holds
abbrev pub TreesHeld : (Tree → Type 0) → TreeLayer → Type 0
TreesHeld P (Tree-F.List ts) = AllByRecursion P ts
TreesHeld P (Tree-F.Object ms) = AllByRecursion (λ m. P m.1) ms
TreesHeld P _ = ⊤

list_held : (P : Tree → Type 0) (es : List ((t : Tree) × P t)) → AllByRecursion P (map (λ e. e.0) es)
list_held P [] = tt
list_held P (e ∷ es) = (e.1, list_held P es)

members_held : (P : Tree → Type 0) (ms : List (Text × ((t : Tree) × P t))) → AllByRecursion (λ (m : Text × Tree). P m.1) (map (λ m. (m.0, m.1.0)) ms)
members_held P [] = tt
members_held P (m ∷ ms) = (m.1.1, members_held P ms)

held_from : (P : Tree → Type 0) (x : Tree-F ((t : Tree) × P t)) → TreesHeld P (map-Tree ((t : Tree) × P t) Tree (λ e. e.0) x)
held_from P Tree-F.Null = tt
held_from P (Tree-F.Bool value) = tt
held_from P (Tree-F.Whole value) = tt
held_from P (Tree-F.Text text) = tt
held_from P (Tree-F.List es) = list_held P es
held_from P (Tree-F.Object ms) = members_held P ms

abbrev pub IsSoundLayer : TreeLayer → Type 0
IsSoundLayer z = IsTreeLayerSound z × TreesHeld HasSoundTreeParts z

pub sound_layer : (t : Tree) → HasSoundTreeParts t → IsSoundLayer (out-Tree t)
sound_layer t p =
    let h = every_held-Tree IsTreeLayerSound t p in
    (every_here-Tree IsTreeLayerSound t p, subst (TreesHeld HasSoundTreeParts) h.1 (held_from HasSoundTreeParts h.0))

abbrev TreeTells : Tree → Type 0
TreeTells = Tells HasSoundTreeParts tree_bytes

layer_tells : (z : TreeLayer) → TreesHeld TreeTells z → (w : TreeLayer) (r s : List ℕ) → IsSoundLayer z → IsSoundLayer w → tree_layer_bytes z ++ r ≡ tree_layer_bytes w ++ s → (z ≡ w) × (r ≡ s)
layer_tells Tree-F.Null t Tree-F.Null r s p q e = (refl, tails _ _ _ _ e)
layer_tells Tree-F.Null t w r s p q e = let h = heads _ _ _ _ e in absurd (omega (arith, h))
layer_tells (Tree-F.Bool a) t (Tree-F.Bool b) r s p q e =
    let h = flag_bytes-tells a b r s tt tt (tails _ _ _ _ e) in (ap Tree-F.Bool h.0, h.1)
layer_tells (Tree-F.Bool a) t w r s p q e = let h = heads _ _ _ _ e in absurd (omega (arith, h))
layer_tells (Tree-F.Whole a) t (Tree-F.Whole b) r s p q e =
    let h = signed_bytes-tells_8 a b r s (exact_fits a p.0) (exact_fits b q.0) (tails _ _ _ _ e) in (ap Tree-F.Whole h.0, h.1)
layer_tells (Tree-F.Whole a) t w r s p q e = let h = heads _ _ _ _ e in absurd (omega (arith, h))
layer_tells (Tree-F.Text a) t (Tree-F.Text b) r s p q e =
    let h = text_bytes-tells a b r s p.0 q.0 (tails _ _ _ _ e) in (ap Tree-F.Text h.0, h.1)
layer_tells (Tree-F.Text a) t w r s p q e = let h = heads _ _ _ _ e in absurd (omega (arith, h))
layer_tells (Tree-F.List a) t (Tree-F.List b) r s p q e =
    let h = all-tell HasSoundTreeParts tree_bytes a t b r s p q (tails _ _ _ _ e) in (ap Tree-F.List h.0, h.1)
layer_tells (Tree-F.List a) t w r s p q e = let h = heads _ _ _ _ e in absurd (omega (arith, h))
layer_tells (Tree-F.Object a) t (Tree-F.Object b) r s p q e =
    let h = all-tell (IsEntry HasSoundTreeParts) (entry_of tree_bytes) a (entries-tell HasSoundTreeParts tree_bytes a t) b r s
    (p.0.0, are_entries HasSoundTreeParts a p.0.2 p.1) (q.0.0, are_entries HasSoundTreeParts b q.0.2 q.1) (tails _ _ _ _ e) in
    (ap Tree-F.Object h.0, h.1)
layer_tells (Tree-F.Object a) t w r s p q e = let h = heads _ _ _ _ e in absurd (omega (arith, h))

rolled_tells : (z : TreeLayer) → TreesHeld TreeTells z → TreeTells (roll-Tree z)
rolled_tells z t b r s p q e =
    let back : roll-Tree (out-Tree b) ≡ b = roll-out-Tree b in
    let e' : tree_layer_bytes z ++ r ≡ tree_layer_bytes (out-Tree b) ++ s =
    ap (λ bs. bs ++ r) (sym (tree_bytes-roll z)) ∙ e ∙ ap (λ bs. bs ++ s) (ap tree_bytes (sym back) ∙ tree_bytes-roll (out-Tree b)) in
    let here : IsSoundLayer z = subst IsSoundLayer (out-roll-Tree z) (sound_layer (roll-Tree z) p) in
    let h = layer_tells z t (out-Tree b) r s here (sound_layer b q) e' in
    (ap roll-Tree h.0 ∙ back, h.1)

pub tree_bytes-tells : (t : Tree) → Tells HasSoundTreeParts tree_bytes t
tree_bytes-tells = ind-Tree TreeTells (λ x y is. subst (λ z. TreeTells (roll-Tree z)) is (rolled_tells _ (held_from TreeTells y)))
