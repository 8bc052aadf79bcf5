-- Entries in the order of their names.
use Rattle.std.proofs.Common.{◌≡◌, ℕ, ◌+◌, ◌<◌, Less, List, [], ◌∷◌, length, map, get_or, nat_cmp}
use Rattle.std.proofs.Math.ListN.{get_or-map}
use Rattle.std.proofs.lemmas.List.{length-map}
use Rattle.std.proofs.lemmas.Cmp.{nat_list_cmp_total}
use Rattle.std.proofs.lemmas.Map.Keys.{sorted_from_all_adjacent}
use Rattle.std.specs.Cmp.Lexicographic.{slice_cmp}
use Rattle.std.specs.List.Sorted.{IsStrictlySortedBy}
use Rattle.fly_types.specs.declared.text.Text.{Text}
use Rattle.fly_types.specs.declared.literals.Literal.{Literal}
use Rattle.fly_types.specs.Sound.{AreNamesSorted}

-- where each name is below the next, the names are in order
pub order_from_neighbours : (es : List (Text × Literal)) → ((k : ℕ) (d : Text × Literal) → k + 1 < length es
    → slice_cmp nat_cmp (get_or es k d).0 (get_or es (k + 1) d).0 ≡ Less) → AreNamesSorted es
unfolding IsStrictlySortedBy
order_from_neighbours [] h = tt
order_from_neighbours (e ∷ es) h =
    let name : Text × Literal → Text = λ entry. entry.0 in
    sorted_from_all_adjacent nat_list_cmp_total (map name (e ∷ es)) e.0
    (λ k l. rw (get_or-map name (e ∷ es) k e, get_or-map name (e ∷ es) (k + 1) e) (h k e (rw length-map at l)))
