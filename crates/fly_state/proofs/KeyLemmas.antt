-- Identifiers by their keys.
use Rattle.std.proofs.Common.{◌≡◌, ℕ, Bool, ◌&&◌, List, map, Ordering, Less, Equal, Greater, is_eq, refl, sym, ◌∙◌, ap, position, bytes_eq}
use Rattle.std.specs.Cmp.{both_ways}
use Rattle.std.specs.Ordering.{ordering_then}
use Rattle.std.proofs.lemmas.Map.Text.{is_eq-slice_cmp}
use Rattle.std.proofs.lemmas.Slice.Eq.{bytes_eq-Decides}
use Rattle.fly_docs.specs.declared.binding.Binding.{Binding}
use Rattle.fly_docs.specs.declared.names.Identifier.{Identifier}
use Rattle.fly_docs.specs.declared.task.Task.{Task}
use Rattle.fly_docs.specs.Lookups.{is_same}
use Rattle.fly_state.specs.Tables.{Loan, Key, key_id, key_cmp, loan_cmp}
use Rattle.fly_state.proofs.PlaceLemmas.{position_alike, position_map}

pub bytes_eq_back : (x y : List ℕ) → bytes_eq x y ≡ bytes_eq y x
bytes_eq_back x y =
    both_ways _ _ (λ e. (bytes_eq-Decides y x).1 (sym ((bytes_eq-Decides x y).0 e))) (λ e. (bytes_eq-Decides x y).1 (sym ((bytes_eq-Decides y x).0 e)))

is_same_back : (i j : Identifier) → is_same i j ≡ is_same j i
is_same_back i j = λ k. bytes_eq_back i.project j.project k && bytes_eq_back i.domain j.domain k && bytes_eq_back i.name j.name k && bytes_eq_back i.version j.version k

tied_then : (a b : Ordering) → is_eq (ordering_then a b) ≡ (is_eq a && is_eq b)
tied_then Less b = refl
tied_then Equal b = refl
tied_then Greater b = refl

-- keys that tie are the same identifier
key_ties : (x y : Key) → is_eq (key_cmp x y) ≡ is_same (key_id y) (key_id x)
key_ties x y =
    let a = loan_cmp x.0 y.0 in
    let b = loan_cmp x.1 y.1 in
    let c = loan_cmp x.2 y.2 in
    let d = loan_cmp x.3 y.3 in
    tied_then (ordering_then (ordering_then a b) c) d
    ∙ ap (λ t. t && is_eq d) (tied_then (ordering_then a b) c ∙ ap (λ t. t && is_eq c) (tied_then a b))
    ∙ (λ k. is_eq-slice_cmp x.0.now y.0.now k && is_eq-slice_cmp x.1.now y.1.now k && is_eq-slice_cmp x.2.now y.2.now k && is_eq-slice_cmp x.3.now y.3.now k)
    ∙ is_same_back (key_id x) (key_id y)

-- the first places of the keys of tasks are those of the tasks
pub places_of_keys : (keys : List Key) (tasks : List Task) → map key_id keys ≡ map (λ t. t.id) tasks
    → (key : Key) → position (λ k. is_eq (key_cmp key k)) keys ≡ position (λ (t : Task). is_same t.id (key_id key)) tasks
places_of_keys keys tasks same key =
    position_alike (λ k. is_eq (key_cmp key k)) (λ k. is_same (key_id k) (key_id key)) keys (key_ties key)
    ∙ sym (position_map (λ id. is_same id (key_id key)) key_id keys)
    ∙ ap (position (λ id. is_same id (key_id key))) same
    ∙ position_map (λ id. is_same id (key_id key)) (λ (t : Task). t.id) tasks

-- the first places of names are those of the bindings
pub places_of_names : (names : List Loan) (bindings : List Binding) → map (λ n. n.now) names ≡ map (λ (x : Binding). x.var) bindings
    → (key : Loan) → position (λ k. is_eq (loan_cmp key k)) names ≡ position (λ (x : Binding). bytes_eq x.var key.now) bindings
places_of_names names bindings same key =
    position_alike (λ k. is_eq (loan_cmp key k)) (λ k. bytes_eq k.now key.now) names
    (λ k. is_eq-slice_cmp key.now k.now ∙ bytes_eq_back key.now k.now)
    ∙ sym (position_map (λ name. bytes_eq name key.now) (λ (n : Loan). n.now) names)
    ∙ ap (position (λ name. bytes_eq name key.now)) same
    ∙ position_map (λ name. bytes_eq name key.now) (λ (x : Binding). x.var) bindings
