-- A binary search by name among sorted names finds what a search from the front does.
use Rattle.std.proofs.Common.{◌≡◌, ℕ, zero, suc, ◌+◌, ◌<◌, ◌≤◌, Bool, true, false, cond, List, [], ◌∷◌, map, length, get_or, Some, None, Ordering, Less, Equal, Greater, is_lt, is_eq, nat_cmp, refl, sym, ◌∙◌, ap, ap₂, subst, ⊎_elim, HoldsAt, IsSortedBy, find, bytes_eq, arith}
use Rattle.std.specs.List.Sorted.{IsStrictlySortedBy, IsNonDecreasingBy, IsPartitionPoint}
use Rattle.std.specs.Ordering.{ordering_index, ordering_reverse}
use Rattle.std.specs.Cmp.Lexicographic.{slice_cmp}
use Rattle.std.proofs.Math.ListN.{get_or-map}
use Rattle.std.proofs.lemmas.Bool.{cases_lt}
use Rattle.std.proofs.lemmas.Cmp.{nat_list_cmp_total}
use Rattle.std.proofs.lemmas.List.{length-map}
use Rattle.std.proofs.lemmas.List.Sorted.{searchable_from_sorted}
use Rattle.std.proofs.lemmas.Map.Keys.{Less-from_sorted}
use Rattle.std.proofs.lemmas.Map.Text.{is_eq-slice_cmp}
use Rattle.std.proofs.lemmas.Slice.Eq.{bytes_eq-Decides}

module _ {X : Type 0} (name_of : X → List ℕ) (name : List ℕ) where
  abbrev pub has_name : X → Bool
  has_name x = bytes_eq (name_of x) name

  abbrev pub by_name : X → Ordering
  by_name x = slice_cmp nat_cmp (name_of x) name

  none_found : (xs : List X) → ((k : ℕ) (d : X) → k < length xs → has_name (get_or xs k d) ≡ false) → find has_name xs ≡ None
  none_found [] h = refl
  none_found (x ∷ xs) h =
      ap (λ b. cond b (Some x) (find has_name xs)) (h 0 x (omega arith)) ∙ none_found xs (λ k d lt. h (suc k) d (omega arith))

  found_first : (xs : List X) (i : ℕ) (x : X) → i < length xs → x ≡ get_or xs i x → has_name x ≡ true
      → ((k : ℕ) (d : X) → k < i → has_name (get_or xs k d) ≡ false) → find has_name xs ≡ Some x
  found_first [] i x lt is here before = absurd (omega arith)
  found_first (y ∷ ys) zero x lt is here before =
      ap (λ b. cond b (Some y) (find has_name ys)) (subst (λ z. has_name z ≡ true) is here) ∙ ap Some (sym is)
  found_first (y ∷ ys) (suc i) x lt is here before =
      ap (λ b. cond b (Some y) (find has_name ys)) (before 0 y (omega arith))
      ∙ found_first ys i x (omega arith) is here (λ k d l. before (suc k) d (omega arith))

  differs : (x : X) (o : Ordering) → by_name x ≡ o → is_eq o ≡ false → has_name x ≡ false
  differs x o e n = sym (is_eq-slice_cmp (name_of x) name) ∙ ap is_eq e ∙ n

  module _ (xs : List X) (sorted : IsStrictlySortedBy (slice_cmp nat_cmp) (map name_of xs)) where
    less_at : (i j : ℕ) (d : X) → i < j → j < length xs → slice_cmp nat_cmp (name_of (get_or xs i d)) (name_of (get_or xs j d)) ≡ Less
    less_at i j d lt below =
        let in_map : j < length (map name_of xs) = omega (arith, below, length-map xs name_of) in
        sym (ap₂ (slice_cmp nat_cmp) (get_or-map name_of xs i d) (get_or-map name_of xs j d))
        ∙ Less-from_sorted (slice_cmp nat_cmp) (map name_of xs) i j (name_of d) sorted lt in_map

    in_order : IsSortedBy (λ a b. is_lt (slice_cmp nat_cmp (name_of a) (name_of b))) xs
    in_order k d low high =
        let back = nat_list_cmp_total.antisymm (name_of (get_or xs (k + 1) d)) (name_of (get_or xs k d)) in
        ap is_lt (back ∙ ap ordering_reverse (less_at k (k + 1) d (omega arith) high))

    -- the place of an equal name is that of the first element of the name
    pub found : (i : ℕ) → i < length xs → HoldsAt (λ y. by_name y ≡ Equal) xs i → (x : X) → x ≡ get_or xs i x → find has_name xs ≡ Some x
    found i lt holds x is =
        let here : has_name x ≡ true =
        sym (is_eq-slice_cmp (name_of x) name) ∙ ap is_eq (subst (λ y. by_name y ≡ Equal) (sym is) (holds x)) in
        found_first xs i x lt is here (λ k d l.
        let its_name : name_of (get_or xs i d) ≡ name =
        (bytes_eq-Decides _ _).0 (sym (is_eq-slice_cmp (name_of (get_or xs i d)) name) ∙ ap is_eq (holds d)) in
        differs (get_or xs k d) Less (ap (slice_cmp nat_cmp (name_of (get_or xs k d))) (sym its_name) ∙ less_at k i d l lt) refl)

    -- where the search ends between lower and higher names, no element has the name
    pub absent : (i : ℕ) → (IsNonDecreasingBy (λ y. ordering_index (by_name y)) xs → IsPartitionPoint (λ y. by_name y ≡ Less) (λ y. by_name y ≡ Greater) xs i)
        → find has_name xs ≡ None
    absent i parted =
        let sides = parted (searchable_from_sorted nat_list_cmp_total name_of xs name in_order) in
        none_found xs (λ k d l. ⊎_elim
        (λ (low : k < i). differs (get_or xs k d) Less (sides.0 k d (omega arith) low) refl)
        (λ (high : i ≤ k). differs (get_or xs k d) Greater (sides.1 k d high l) refl)
        (cases_lt k i))

-- one name is in order
pub one_name : {X : Type 0} (name_of : X → List ℕ) (x : X) → IsStrictlySortedBy (slice_cmp nat_cmp) (map name_of (x ∷ []))
unfolding IsStrictlySortedBy
one_name name_of x = (tt, tt)
