-- Elements that stand before, by the first places of them all.
use Rattle.std.proofs.Common.{◌≡◌, ℕ, ◌+◌, ◌<◌, Bool, true, false, cond, not, ◌&&◌, eqb, List, [], ◌∷◌, ◌++◌, map, filter, length, take, get_or, Option, Some, None, Ordering, Less, Equal, Greater, is_eq, refl, sym, ◌∙◌, ap, ⊎_elim, position, bytes_eq, arith}
use Rattle.std.specs.Cmp.{both_ways}
use Rattle.std.specs.Ordering.{ordering_then}
use Rattle.std.specs.List.{list_any, enumerate_from, position_or_len}
use Rattle.std.proofs.lemmas.Bool.{false≢true, cases_order, lt-ltb, eq-eqb, ne_eqb, cond-true, false_from_ne_true}
use Rattle.std.proofs.lemmas.List.{length-take-le, map-append, get_or-take}
use Rattle.std.proofs.lemmas.List.Folds.{list_any_at, Any-from_list_any}
use Rattle.std.proofs.lemmas.List.Sums.{fails_before_first, passes_at_first}
use Rattle.std.proofs.lemmas.Map.Text.{is_eq-slice_cmp}
use Rattle.std.proofs.lemmas.Slice.Eq.{bytes_eq-Decides}
use Rattle.fly_docs.specs.declared.names.Identifier.{Identifier}
use Rattle.fly_docs.specs.Lookups.{is_same}
use Rattle.fly_links.specs.Directory.{is_repeated}
use Rattle.fly_links.specs.Tables.{Key, key_id, key_cmp, loan_cmp, is_place}
use Rattle.fly_links.proofs.Numbered.{picked_more}
use Rattle.fly_links.proofs.PlaceLemmas.{position_alike, position_map}

-- an earlier element passes just where the first place is another
pub stands_before : {X : Type 0} (p : X → Bool) (xs : List X) (i : ℕ) (d : X) → i < length xs → p (get_or xs i d) ≡ true
    → list_any p (take i xs) ≡ not (is_place (position p xs) i)
stands_before p xs i d below here =
    let first = position_or_len p xs in
    let some : first < length xs → not (is_place (position p xs) i) ≡ not (eqb first i) =
    λ lt. ap (λ o. not (is_place o i)) (cond-true _ (Some (position_or_len p xs)) None (lt-ltb _ _ lt)) in
    ⊎_elim (λ same. false_from_ne_true _ (λ any.
    let found = Any-from_list_any p (take i xs) any in
    let within : found.0 < i = omega (arith, found.2, length-take-le i xs (omega arith)) in
    let place : p (get_or xs found.0 found.1) ≡ true = ap p (sym (get_or-take i xs found.0 found.1 within) ∙ found.3) ∙ found.4 in
    false≢true (sym (fails_before_first p xs found.0 found.1 (omega (arith, within, same))) ∙ place))
    ∙ sym (some (omega (arith, same)) ∙ ap not (eq-eqb first i (sym same))))
    (⊎_elim (λ before. absurd (false≢true (sym (fails_before_first p xs i d before) ∙ here)))
    (λ after.
    let in_front : first < length (take i xs) = omega (arith, after, length-take-le i xs (omega arith)) in
    list_any_at p (take i xs) first d in_front (ap p (get_or-take i xs first d after) ∙ passes_at_first p xs d (omega arith))
    ∙ sym (some (omega arith) ∙ ap not (ne_eqb first i (λ e. omega (arith, e, after))))))
    (cases_order i first)

-- ---- identifiers

pub bytes_eq_back : (x y : List ℕ) → bytes_eq x y ≡ bytes_eq y x
bytes_eq_back x y =
    both_ways _ _ (λ e. (bytes_eq-Decides y x).1 (sym ((bytes_eq-Decides x y).0 e))) (λ e. (bytes_eq-Decides x y).1 (sym ((bytes_eq-Decides y x).0 e)))

pub is_same_back : (i j : Identifier) → is_same i j ≡ is_same j i
is_same_back i j = λ k. bytes_eq_back i.project j.project k && bytes_eq_back i.domain j.domain k && bytes_eq_back i.name j.name k && bytes_eq_back i.version j.version k

pub is_same_itself : (i : Identifier) → is_same i i ≡ true
is_same_itself i =
    (λ k. (bytes_eq-Decides i.project i.project).1 refl k && (bytes_eq-Decides i.domain i.domain).1 refl k
    && (bytes_eq-Decides i.name i.name).1 refl k && (bytes_eq-Decides i.version i.version).1 refl k)

tied_then : (a b : Ordering) → is_eq (ordering_then a b) ≡ (is_eq a && is_eq b)
tied_then Less b = refl
tied_then Equal b = refl
tied_then Greater b = refl

-- keys that tie are the same identifier
pub key_ties : (x y : Key) → is_eq (key_cmp x y) ≡ is_same (key_id y) (key_id x)
key_ties x y =
    let a = loan_cmp x.0 y.0 in
    let b = loan_cmp x.1 y.1 in
    let c = loan_cmp x.2 y.2 in
    let d = loan_cmp x.3 y.3 in
    tied_then (ordering_then (ordering_then a b) c) d
    ∙ ap (λ t. t && is_eq d) (tied_then (ordering_then a b) c ∙ ap (λ t. t && is_eq c) (tied_then a b))
    ∙ (λ k. is_eq-slice_cmp x.0.now y.0.now k && is_eq-slice_cmp x.1.now y.1.now k && is_eq-slice_cmp x.2.now y.2.now k && is_eq-slice_cmp x.3.now y.3.now k)
    ∙ is_same_back (key_id x) (key_id y)

-- the first places of keys are those of their identifiers
pub places_of_ids : (keys : List Key) (key : Key) → position (λ k. is_eq (key_cmp key k)) keys ≡ position (λ id. is_same id (key_id key)) (map key_id keys)
places_of_ids keys key =
    position_alike (λ k. is_eq (key_cmp key k)) (λ k. is_same (key_id k) (key_id key)) keys (key_ties key)
    ∙ sym (position_map (λ id. is_same id (key_id key)) key_id keys)

-- ---- the list of places

-- those before a place
abbrev pub repeated_before : List Identifier → ℕ → List ℕ
repeated_before ids i = map (λ at. at.0) (filter (λ (at : ℕ × Identifier). is_repeated ids at.0 at.1) (enumerate_from 0 (take i ids)))

one_or_none : (b : Bool) (i : ℕ) (id : Identifier) → map (λ (at : ℕ × Identifier). at.0) (cond b ((i, id) ∷ []) []) ≡ cond b (i ∷ []) []
one_or_none true i id = refl
one_or_none false i id = refl

pub repeated_more : (ids : List Identifier) (i : ℕ) (d : Identifier) → i < length ids
    → repeated_before ids (i + 1) ≡ repeated_before ids i ++ cond (is_repeated ids i (get_or ids i d)) (i ∷ []) []
repeated_more ids i d below =
    let test : ℕ × Identifier → Bool = λ at. is_repeated ids at.0 at.1 in
    let first : ℕ × Identifier → ℕ = λ at. at.0 in
    let id = get_or ids i d in
    ap (map first) (picked_more test ids i d below)
    ∙ map-append first (filter test (enumerate_from 0 (take i ids))) (cond (test (i, id)) ((i, id) ∷ []) [])
    ∙ ap (λ xs. repeated_before ids i ++ xs) (one_or_none (test (i, id)) i id)

-- by the first place that was found of the id
pub repeated_next : (ids : List Identifier) (i : ℕ) (d : Identifier) (found : Option ℕ) (at : Bool) → i < length ids
    → found ≡ position (λ j. is_same j (get_or ids i d)) ids → at ≡ is_place found i
    → repeated_before ids (i + 1) ≡ repeated_before ids i ++ cond (not at) (i ∷ []) []
repeated_next ids i d found at below is_found is_there =
    let id = get_or ids i d in
    repeated_more ids i d below
    ∙ ap (λ b. repeated_before ids i ++ cond b (i ∷ []) [])
    (stands_before (is_same id) ids i d below (is_same_itself id)
    ∙ ap (λ o. not (is_place o i)) (position_alike (is_same id) (λ j. is_same j id) ids (is_same_back id) ∙ sym is_found)
    ∙ ap not (sym is_there))
