-- Entries in the order of their names.
use Rattle.std.proofs.Common.{◌≡◌, ℕ, ◌+◌, ◌<◌, Less, List, [], ◌∷◌, length, map, get_or, nat_cmp, is_ge, true, sym}
use Rattle.std.proofs.lemmas.Bool.{false≢true}
use Rattle.std.proofs.Math.ListN.{get_or-map}
use Rattle.std.proofs.lemmas.List.{length-map, get_or_default}
use Rattle.std.proofs.lemmas.Cmp.{nat_list_cmp_total}
use Rattle.std.proofs.lemmas.Map.Keys.{Less-from_sorted, sorted_from_all_adjacent}
use Rattle.std.specs.Cmp.Lexicographic.{slice_cmp}
use Rattle.std.specs.List.Sorted.{IsStrictlySortedBy}
use Rattle.fly_types.specs.declared.text.Text.{Text}
use Rattle.fly_types.specs.Sound.{AreNamesSorted}

module _ {X : Type 0} where
  abbrev name : Text × X → Text
  name entry = entry.0

  -- where each name is below the next, the names are in order
  pub order_from_neighbours : (es : List (Text × X)) → ((k : ℕ) (d : Text × X) → k + 1 < length es
      → slice_cmp nat_cmp (get_or es k d).0 (get_or es (k + 1) d).0 ≡ Less) → AreNamesSorted es
  unfolding IsStrictlySortedBy
  order_from_neighbours [] h = tt
  order_from_neighbours (e ∷ es) h =
      sorted_from_all_adjacent nat_list_cmp_total (map name (e ∷ es)) e.0
      (λ k l. rw (get_or-map name (e ∷ es) k e, get_or-map name (e ∷ es) (k + 1) e) (h k e (rw length-map at l)))

  -- of two names in order the first is not at or above the second
  pub below_from_order : (es : List (Text × X)) (i j : ℕ) (d e : Text × X) → AreNamesSorted es → i < j → j < length es
      → true ≡ is_ge (slice_cmp nat_cmp (get_or es i d).0 (get_or es j e).0) → ⊥
  below_from_order es i j d e order before within above =
      let less = Less-from_sorted (slice_cmp nat_cmp) (map name es) i j d.0 order before (rw length-map within) in
      let below : slice_cmp nat_cmp (get_or es i d).0 (get_or es j d).0 ≡ Less =
      rw (get_or-map name es i d, get_or-map name es j d) at less in
      let same = get_or_default es j e d within in
      false≢true (sym (rw (same, below) at above))
