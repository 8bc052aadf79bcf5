-- Names that differ, and lists of the same names.
use Rattle.std.proofs.Common.{◌≡◌, ℕ, Bool, true, false, List, [], ◌∷◌, map, remove, find, get_or, slice_get, nat_cmp, Less, Contains, IsPermutation, Some, option_map, bytes_eq, refl, sym, ap, ◌∙◌, subst, ⊎_elim}
use Rattle.std.specs.Cmp.Lexicographic.{slice_cmp}
use Rattle.std.specs.List.{IsDistinct}
use Rattle.std.proofs.lemmas.Bool.{false_from_ne_true, false≢true, cases_order}
use Rattle.std.proofs.lemmas.Bool.Decides.{same_from_decides, Decides-like}
use Rattle.std.proofs.lemmas.Cmp.{nat_list_cmp_total}
use Rattle.std.proofs.lemmas.List.Elements.{All-from_recursion, All-contains}
use Rattle.std.proofs.lemmas.List.Sorted.{IsPermutation-refl, IsPermutation-sym, IsPermutation-trans, IsPermutation-cons, IsPermutation-remove, Contains-permutation}
use Rattle.std.proofs.lemmas.Map.Keys.{Less-from_sorted, IsDistinct-head, IsDistinct-tail, apart_from_distinct, IsDistinct-from_apart, IsDistinct-IsPermutation}
use Rattle.std.proofs.lemmas.Slice.Eq.{bytes_eq-Decides}
use Rattle.fly_types.specs.declared.text.Text.{Text}
use Rattle.fly_types.specs.declared.kinds.LiteralType.{LiteralType}
use Rattle.fly_types.specs.declared.variable.Variable.{Variable}
use Rattle.fly_docs.specs.Interfaces.{names_of, type_of, AreInOrder}
use Rattle.fly_docs.specs.Typed.{AreDistinct}
use Rattle.fly_graph.proofs.Members.{Contains-nil, Contains-cons_cases}
use Rattle.fly_faults.proofs.Lists.{apart, find_found, find_some, first_in, later_in, map_at, place_in, some_get, some_of_map}

-- ---- texts

pub same_text : (x y : List ℕ) → bytes_eq x y ≡ true → x ≡ y
same_text x y = (bytes_eq-Decides x y).0

pub text_same : (x y : List ℕ) → x ≡ y → bytes_eq x y ≡ true
text_same x y = (bytes_eq-Decides x y).1

pub other_text : (x y : List ℕ) → (x ≡ y → ⊥) → bytes_eq x y ≡ false
other_text x y differ = false_from_ne_true (bytes_eq x y) (λ e. differ (same_text x y e))

pub text_differs : (x y : List ℕ) → bytes_eq x y ≡ false → x ≡ y → ⊥
text_differs x y e same = false≢true (sym e ∙ text_same x y same)

flips : (x y : List ℕ) → bytes_eq x y ≡ bytes_eq y x
flips x y = same_from_decides (bytes_eq x y) (bytes_eq y x) (bytes_eq-Decides x y)
    (Decides-like (bytes_eq y x) sym sym (bytes_eq-Decides y x))

-- ---- both forms of difference

apart_texts : (xs : List (List ℕ)) → AreDistinct xs → IsDistinct bytes_eq xs
apart_texts xs distinct =
    IsDistinct-from_apart bytes_eq xs (λ i j d lt within. other_text _ _ (distinct i j d lt within))

texts_apart : (xs : List (List ℕ)) → IsDistinct bytes_eq xs → AreDistinct xs
texts_apart xs distinct i j d lt within same =
    text_differs _ _ (apart_from_distinct bytes_eq xs i j d distinct lt within) same

new_head : (x : List ℕ) (xs : List (List ℕ)) → IsDistinct bytes_eq (x ∷ xs) → Contains xs x → ⊥
new_head x xs distinct has =
    text_differs x x (All-contains (λ y. bytes_eq x y ≡ false) xs x
    (All-from_recursion (λ y. bytes_eq x y ≡ false) xs (IsDistinct-head bytes_eq x xs distinct)) has) refl

-- ---- lists of the same names

same_names : (xs ys : List (List ℕ)) → IsDistinct bytes_eq xs → IsDistinct bytes_eq ys
    → ((z : List ℕ) → Contains xs z → Contains ys z)
    → ((z : List ℕ) → Contains ys z → Contains xs z) → IsPermutation xs ys
same_names [] [] dx dy to from = IsPermutation-refl []
same_names [] (y ∷ ys) dx dy to from = absurd (Contains-nil y (from y (first_in y ys)))
same_names (x ∷ xs) ys dx dy to from =
    let at = to x (first_in x xs) in
    let rest = remove ys at.0 in
    let moved : IsPermutation ys (x ∷ rest) = IsPermutation-remove ys at.0 x at.1 (sym at.2) in
    let back : IsPermutation (x ∷ rest) ys = IsPermutation-sym ys (x ∷ rest) moved in
    let differ : IsDistinct bytes_eq (x ∷ rest) = IsDistinct-IsPermutation bytes_eq flips ys (x ∷ rest) moved dy in
    let there : (z : List ℕ) → Contains xs z → Contains rest z =
    λ z has. ⊎_elim (λ same. absurd (new_head x xs dx (subst (Contains xs) (sym same) has))) (λ more. more)
    (Contains-cons_cases x rest z (Contains-permutation ys (x ∷ rest) z moved (to z (later_in x xs z has)))) in
    let here : (z : List ℕ) → Contains rest z → Contains xs z =
    λ z has. ⊎_elim (λ same. absurd (new_head x rest differ (subst (Contains rest) (sym same) has))) (λ more. more)
    (Contains-cons_cases x xs z (from z (Contains-permutation (x ∷ rest) ys z back (later_in x rest z has)))) in
    IsPermutation-trans (x ∷ xs) (x ∷ rest) ys
    (IsPermutation-cons x xs rest
    (same_names xs rest (IsDistinct-tail bytes_eq x xs dx) (IsDistinct-tail bytes_eq x rest differ) there here)) back

-- two lists without repeats that have the same names
pub permutation_from : (xs ys : List (List ℕ)) → AreDistinct xs → AreDistinct ys
    → ((z : List ℕ) → Contains xs z → Contains ys z)
    → ((z : List ℕ) → Contains ys z → Contains xs z) → IsPermutation xs ys
permutation_from xs ys dx dy to from = same_names xs ys (apart_texts xs dx) (apart_texts ys dy) to from

pub permutation_in : (xs ys : List (List ℕ)) → IsPermutation xs ys → (z : List ℕ) → Contains xs z → Contains ys z
permutation_in xs ys moved z has = Contains-permutation xs ys z moved has

pub permutation_of : (xs ys : List (List ℕ)) → IsPermutation xs ys → (z : List ℕ) → Contains ys z → Contains xs z
permutation_of xs ys moved z has = Contains-permutation ys xs z (IsPermutation-sym xs ys moved) has

pub permutation_apart : (xs ys : List (List ℕ)) → IsPermutation xs ys → AreDistinct ys → AreDistinct xs
permutation_apart xs ys moved dy =
    texts_apart xs (IsDistinct-IsPermutation bytes_eq flips ys xs (IsPermutation-sym xs ys moved) (apart_texts ys dy))

-- names in order differ
pub distinct_in_order : (names : List (List ℕ)) → AreInOrder names → AreDistinct names
distinct_in_order names order i j d lt within same =
    let less = Less-from_sorted (slice_cmp nat_cmp) names i j d order lt within in
    at (get_or names j d) (subst (λ x. slice_cmp nat_cmp x (get_or names j d) ≡ Less) same less)
  where
    at : (x : List ℕ) → slice_cmp nat_cmp x x ≡ Less → ⊥
    at x e = let turned = nat_list_cmp_total.antisymm x x in cc

-- ---- variables by their names

-- elements that a list tells apart by f
pub same_by : {X Y : Type 0} (f : X → Y) (xs : List X) → AreDistinct (map f xs) → (x y : X) → Contains xs x
    → Contains xs y → f x ≡ f y → x ≡ y
same_by f xs distinct x y has there same =
    let at = place_in xs x has in
    let from = place_in xs y there in
    let here : slice_get (map f xs) at.0 ≡ Some (f y) = map_at f xs at.0 x at.1 ∙ ap Some same in
    let other : slice_get (map f xs) from.0 ≡ Some (f y) = map_at f xs from.0 y from.1 in
    ⊎_elim (λ e. let one : Some x ≡ Some y = sym at.1 ∙ ap (slice_get xs) e ∙ from.1 in cc)
    (λ order. absurd (⊎_elim (λ lt. apart (map f xs) distinct at.0 from.0 (f y) lt here other)
    (λ lt. apart (map f xs) distinct from.0 at.0 (f y) lt other here) order)) (cases_order at.0 from.0)

pub type_of_found : (name : Text) (vs : List Variable) (kind : LiteralType) → type_of name vs ≡ Some kind
    → (v : Variable) × Contains vs v × (v.name ≡ name) × (v.kind ≡ kind)
type_of_found name vs kind e =
    let test : Variable → Bool = λ v. bytes_eq v.name name in
    let some = some_of_map (λ (v : Variable). v.kind) (find test vs) kind e in
    let found = find_found test vs some.0 some.1 in
    (some.0, found.0, same_text some.0.name name found.1, some.2)

pub type_of_named : (vs : List Variable) (v : Variable) → AreDistinct (names_of vs) → Contains vs v
    → type_of v.name vs ≡ Some v.kind
type_of_named vs v distinct has =
    let test : Variable → Bool = λ w. bytes_eq w.name v.name in
    let some = some_get (find test vs) (find_some test vs v has (text_same v.name v.name refl)) in
    let found = find_found test vs some.0 some.1 in
    let same : some.0 ≡ v = same_by (λ (w : Variable). w.name) vs distinct some.0 v found.0 has
    (same_text some.0.name v.name found.1) in
    ap (option_map (λ (w : Variable). w.kind)) (some.1 ∙ ap Some same)
