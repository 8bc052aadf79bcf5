-- Variables in the order of their names.
use Rattle.std.proofs.Common.{◌≡◌, ℕ, ◌+◌, ◌<◌, Less, List, [], ◌∷◌, length, get_or, nat_cmp, is_ge, true, sym}
use Rattle.std.proofs.lemmas.Bool.{false≢true}
use Rattle.std.proofs.Math.ListN.{get_or-map}
use Rattle.std.proofs.lemmas.List.{length-map, get_or_default}
use Rattle.std.proofs.lemmas.Cmp.{nat_list_cmp_total}
use Rattle.std.proofs.lemmas.Map.Keys.{Less-from_sorted, sorted_from_all_adjacent}
use Rattle.std.specs.Cmp.Lexicographic.{slice_cmp}
use Rattle.std.specs.List.Sorted.{IsStrictlySortedBy}
use Rattle.fly_types.specs.declared.variable.Variable.{Variable}
use Rattle.fly_docs.specs.Interfaces.{names_of, AreInOrder}

-- where each name is below the next, the names are in order
pub order_from_neighbours : (vs : List Variable) → ((k : ℕ) (d : Variable) → k + 1 < length vs → slice_cmp nat_cmp (get_or vs k d).name (get_or vs (k + 1) d).name ≡ Less) → AreInOrder (names_of vs)
unfolding IsStrictlySortedBy
order_from_neighbours [] h = tt
order_from_neighbours (v ∷ vs) h =
    let name : Variable → List ℕ = λ v. v.name in
    sorted_from_all_adjacent nat_list_cmp_total (names_of (v ∷ vs)) v.name
    (λ k l. rw (get_or-map name (v ∷ vs) k v, get_or-map name (v ∷ vs) (k + 1) v) (h k v (rw length-map at l)))

-- of two names in order the first is not at or above the second
pub below_from_order : (vs : List Variable) (i j : ℕ) (d e : Variable) → AreInOrder (names_of vs) → i < j → j < length vs
    → true ≡ is_ge (slice_cmp nat_cmp (get_or vs i d).name (get_or vs j e).name) → ⊥
below_from_order vs i j d e order before within above =
    let name : Variable → List ℕ = λ v. v.name in
    let less = Less-from_sorted (slice_cmp nat_cmp) (names_of vs) i j d.name order before (rw length-map within) in
    let below : slice_cmp nat_cmp (get_or vs i d).name (get_or vs j d).name ≡ Less = rw (get_or-map name vs i d, get_or-map name vs j d) at less in
    let same = get_or_default vs j e d within in
    false≢true (sym (rw (same, below) at above))
