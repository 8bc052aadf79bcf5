-- From bytes that are read one way: equal bytes mean equal values, and no value's bytes begin another's.
use Rattle.std.proofs.Common.{◌≡◌, ℕ, List, [], ◌++◌, sym, ◌∙◌, ap, subst, append-nil}
use Rattle.std.specs.List.{AllByRecursion}
use Rattle.std.proofs.lemmas.List.Elements.{recursion_from_All}
use Rattle.fly_types.specs.declared.text.Text.{Text}
use Rattle.fly_types.specs.declared.literals.Literal.{Literal, out-Literal}
use Rattle.fly_types.specs.declared.literals.Literal.TheOpen.{Literal-F}
use Rattle.fly_types.specs.declared.literals.Literal.TheViews as lv
use Rattle.fly_types.specs.declared.literals.Literal.TheVariants as l
use Rattle.fly_types.specs.declared.literals.LiteralMap.{LiteralMap}
use Rattle.fly_types.specs.Layer.{LiteralLayer}
use Rattle.fly_types.specs.Sound.{HasSoundParts, HasSoundTypeParts, HasSoundTreeParts, IsSound, IsSoundMap, IsSoundType, IsSoundStruct}
use Rattle.fly_types.specs.Canonical.{type_bytes, tree_bytes, literal_bytes, map_bytes}
use Rattle.fly_types.specs.OneReading.{HaveMapsOwnBytes, IsPrefixFree}
use Rattle.fly_types.proofs.SoundLemmas.{HasSoundParts-roll}
use Rattle.fly_types.proofs.Tells.{Tells}
use Rattle.fly_types.proofs.TypeTells.{type_bytes-tells}
use Rattle.fly_types.proofs.TreeTells.{tree_bytes-tells}
use Rattle.fly_types.proofs.LiteralTells.{literal_bytes-tells}

prefix_free : {X : Type 0} (P S : X → Type 0) (f : X → List ℕ) → ((x : X) → S x → P x) → ((x : X) → Tells P f x) → IsPrefixFree S f
prefix_free P S f weaker t a b rest p q e =
    let h = t a b rest [] (weaker a p) (weaker b q) (sym e ∙ sym (append-nil (f b))) in h

-- the map literal with the entries of a sound map has sound parts
map_parts : (m : LiteralMap) → IsSoundMap m → HasSoundParts (l.Map m.entries)
map_parts m s =
    let values : AllByRecursion (λ (e : Text × Literal). HasSoundParts e.1) m.entries =
    recursion_from_All (λ (e : Text × Literal). HasSoundParts e.1) m.entries (λ k d lt. (s.literals k d lt).parts) in
    subst HasSoundParts (lv.rolls-Map m.entries) (HasSoundParts-roll (Literal-F.Map m.entries) s.names values)

entries_in : LiteralLayer → List (Text × Literal)
entries_in (Literal-F.Map entries) = entries
entries_in _ = []

one_list : (a b : List (Text × Literal)) → l.Map a ≡ l.Map b → a ≡ b
unfolding entries_in
one_list a b e = ap entries_in (sym (lv.outs-Map a) ∙ ap out-Literal e ∙ lv.outs-Map b)

map_tells : (m : LiteralMap) → Tells IsSoundMap map_bytes m
map_tells m n r s p q e =
    let h = literal_bytes-tells (l.Map m.entries) (l.Map n.entries) r s (map_parts m p) (map_parts n q) e in
    let entries : m.entries ≡ n.entries = one_list m.entries n.entries h.0 in
    (λ i. record { entries = entries i }, h.1)

pub maps_have_own_bytes : HaveMapsOwnBytes
maps_have_own_bytes a b p q e = (map_tells a b [] [] p q (ap (λ bs. bs ++ []) e)).0

pub literals_prefix_free : IsPrefixFree IsSound literal_bytes
literals_prefix_free = prefix_free HasSoundParts IsSound literal_bytes (λ x s. s.parts) literal_bytes-tells

pub types_prefix_free : IsPrefixFree IsSoundType type_bytes
types_prefix_free = prefix_free HasSoundTypeParts IsSoundType type_bytes (λ x s. s.parts) type_bytes-tells

pub structs_prefix_free : IsPrefixFree IsSoundStruct tree_bytes
structs_prefix_free = prefix_free HasSoundTreeParts IsSoundStruct tree_bytes (λ x s. s.parts) tree_bytes-tells

pub maps_prefix_free : IsPrefixFree IsSoundMap map_bytes
maps_prefix_free = prefix_free IsSoundMap IsSoundMap map_bytes (λ x s. s) map_tells
