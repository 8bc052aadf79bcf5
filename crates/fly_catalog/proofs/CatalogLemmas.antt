-- What is found in a catalog by keys, and how its indexes are kept.
use Rattle.std.proofs.Common.{Bor, ◌≡◌, ◌⊎◌, ℕ, zero, suc, ◌+◌, ◌<◌, ◌≤◌, Bool, true, false, List, [], ◌∷◌, ◌++◌, length, inl, inr, sym, ◌∙◌, subst, refl, arith, length-append}
use Rattle.std.specs.Prelude.{Option, Some, None, option_and_then, option_map, slice_get, is_some, Result, Ok, Err, OnOk, OnErr}
use Rattle.std.specs.Option.{option_copied}
use Rattle.std.specs.List.{find}
use Rattle.std.specs.declared.cmp.Ordering.{Ordering}
use Rattle.std.specs.Ordering.{nat_cmp}
use Rattle.std.specs.Cmp.{nat_cmp_total}
use Rattle.std.specs.Map.{values_of, lookup}
use Rattle.std.specs.BTreeMap.{BTreeMap, get, is_at, values, IsOrdered}
use Rattle.std.proofs.lemmas.Option.{slice_get-map, slice_get_cases}
use Rattle.std.proofs.lemmas.Map.Lookups.{CmpEqualImpliesEq}
use Rattle.std.proofs.lemmas.Map.Entries.{btree_map_get_place, place_from_lookup}
use Rattle.fly_types.specs.declared.text.Text.{Text}
use Rattle.fly_docs.specs.declared.dataset.DatasetId.{DatasetId}
use Rattle.fly_catalog.specs.declared.parts.Artifact.{Artifact}
use Rattle.fly_catalog.specs.declared.parts.Tag.{Tag}
use Rattle.fly_catalog.specs.declared.parts.Reservation.{Reservation}
use Rattle.fly_catalog.specs.Names.{Numbers, DatasetKey, ItemKey, IsNumbering, KeepsNumbers, dataset_key, item_key}
use Rattle.fly_catalog.specs.Parts.{same_text, same_dataset, is_artifact, is_tag, is_reservation}
use Rattle.fly_catalog.specs.Index.{Indexes}
use Rattle.fly_catalog.specs.Table.{AddsItem, KeepsTable, IsAlike}
use Rattle.fly_catalog.specs.Catalog.{dataset_cmp, item_cmp, artifact_key, tag_key, reservation_key, AreFound, AreReserved, IsIndexed}
use Rattle.fly_catalog.specs.Reservations.{reservation_at}
use Rattle.fly_catalog.proofs.IndexLemmas.{found, grow, add, alike}
use Rattle.fly_catalog.proofs.KeyLemmas.{dataset_key_same, item_key_same, dataset_of_key, item_of_key, dataset_key_kept, item_key_kept}
use Rattle.fly_catalog.proofs.MapLemmas.{after_update}

-- ---- what is found

-- the entry of a value
pub entry_of_value : {K X : Type 0} (es : List (K × X)) (j : ℕ) (y : X) → slice_get (values_of es) j ≡ Some y → (k : K) × (slice_get es j ≡ Some (k, y))
entry_of_value [] j y h = cc
entry_of_value {K} {X} (e ∷ es) zero y h =
    let is : e.1 ≡ y = cc in
    let P : X → Type 0 = λ w. Some e ≡ Some (e.0, w) in
    (e.0, subst P is refl)
entry_of_value (e ∷ es) (suc j) y h = entry_of_value es j y h

module _ (n : Numbers) (own : IsNumbering n) where
  pub dataset_answer : (places : BTreeMap DatasetKey ℕ) (ds : List DatasetId) → AreFound dataset_cmp places ds (dataset_key n)
      → (d : DatasetId) (o : Option DatasetKey) → o ≡ dataset_key n d
      → find (same_dataset d) ds ≡ option_and_then (λ i. slice_get ds i) (option_and_then (λ k. get dataset_cmp places k) o)
  dataset_answer places ds indexes d o e =
      rw e (found _ _ _ _ indexes ds (λ j y h. (j, h)) (λ i x h. (i, h)) (same_dataset d) (dataset_key n d)
      (λ x h. dataset_key_same n d x h) (λ x k h i. dataset_of_key n own d x k h i))

  pub artifact_answer : (places : BTreeMap ItemKey ℕ) (xs : List Artifact) → AreFound item_cmp places xs (artifact_key n)
      → (d : DatasetId) (id : Text) (o : Option ItemKey) → o ≡ item_key n d id
      → find (is_artifact d id) xs ≡ option_and_then (λ i. slice_get xs i) (option_and_then (λ k. get item_cmp places k) o)
  artifact_answer places xs indexes d id o e =
      rw e (found _ _ _ _ indexes xs (λ j y h. (j, h)) (λ i x h. (i, h)) (is_artifact d id) (item_key n d id)
      (λ x h. item_key_same n d x.dataset id x.id h) (λ x k h i. item_of_key n own d x.dataset id x.id k h i))

  pub tag_answer : (places : BTreeMap ItemKey ℕ) (xs : List Tag) → AreFound item_cmp places xs (tag_key n)
      → (d : DatasetId) (name : Text) (o : Option ItemKey) → o ≡ item_key n d name
      → find (is_tag d name) xs ≡ option_and_then (λ i. slice_get xs i) (option_and_then (λ k. get item_cmp places k) o)
  tag_answer places xs indexes d name o e =
      rw e (found _ _ _ _ indexes xs (λ j y h. (j, h)) (λ i x h. (i, h)) (is_tag d name) (item_key n d name)
      (λ x h. item_key_same n d x.dataset name x.name h) (λ x k h i. item_of_key n own d x.dataset name x.name k h i))

  module _ (live : BTreeMap ℕ Reservation) (ordered : IsOrdered nat_cmp live) where
    -- a reservation of the list stands under a number
    pub shown : (j : ℕ) (y : Reservation) → slice_get (values live) j ≡ Some y → (i : ℕ) × (get nat_cmp live i ≡ Some y)
    shown j y h =
        let s = entry_of_value live.entries j y h in
        (s.0, btree_map_get_place nat_cmp_total live j s.0 y ordered s.1)

    -- what stands under a number is in the list
    pub listed : (i : ℕ) (x : Reservation) → get nat_cmp live i ≡ Some x → (j : ℕ) × (slice_get (values live) j ≡ Some x)
    listed i x h =
        let s = place_from_lookup (is_at (nat_cmp i)) live.entries x h in
        (s.0, rw (slice_get-map (λ (e : ℕ × Reservation). e.1) live.entries s.0, s.2) refl)

    pub reservation_answer : (serials : BTreeMap ItemKey ℕ) (next : ℕ)
        → Indexes (λ k. get item_cmp serials k) (λ i. get nat_cmp live i) (reservation_key n) next
        → (d : DatasetId) (tag : Text) (o : Option ItemKey) → o ≡ item_key n d tag
        → find (is_reservation d tag) (values live) ≡ option_and_then (λ k. reservation_at serials live k) o
    reservation_answer serials next indexes d tag o e =
        rw e (found _ _ _ _ indexes (values live) shown listed (is_reservation d tag) (item_key n d tag)
        (λ x h. item_key_same n d x.dataset tag x.tag h) (λ x k h i. item_of_key n own d x.dataset tag x.tag k h i) ∙ regroup (item_key n d tag))
      where
        regroup : (o : Option ItemKey) → option_and_then (λ i. get nat_cmp live i) (option_and_then (λ k. get item_cmp serials k) o) ≡ option_and_then (λ k. reservation_at serials live k) o
        regroup None = refl
        regroup (Some k) = refl

-- ---- more numbers

module _ (old new : Numbers) (numbering : IsNumbering new) (keeps : KeepsNumbers old new) where
  pub indexed_grow : (ds : List DatasetId) (dp : BTreeMap DatasetKey ℕ) (xs : List Artifact) (ap : BTreeMap ItemKey ℕ) (ts : List Tag) (tp : BTreeMap ItemKey ℕ)
      (live : BTreeMap ℕ Reservation) (serials : BTreeMap ItemKey ℕ) (next : ℕ)
      → IsIndexed old ds dp xs ap ts tp live serials next → IsIndexed new ds dp xs ap ts tp live serials next
  indexed_grow ds dp xs ap ts tp live serials next h = record {
    numbering = numbering;
    datasets_found = grow _ _ _ _ h.datasets_found (dataset_key new) (λ d k e. dataset_key_kept old new keeps d k e);
    artifacts_found = grow _ _ _ _ h.artifacts_found (artifact_key new) (λ a k e. item_key_kept old new keeps a.dataset a.id k e);
    tags_found = grow _ _ _ _ h.tags_found (tag_key new) (λ t k e. item_key_kept old new keeps t.dataset t.name k e);
    reserved = record {
      found = grow _ _ _ _ h.reserved.found (reservation_key new) (λ r k e. item_key_kept old new keeps r.dataset r.tag k e);
      ordered = h.reserved.ordered;
    };
  }

-- ---- one more item

slice_get_push : {X : Type 0} (xs : List X) (x : X) (i : ℕ) → ((i ≡ length xs) × (slice_get (xs ++ x ∷ []) i ≡ Some x)) ⊎ (slice_get (xs ++ x ∷ []) i ≡ slice_get xs i)
slice_get_push [] x zero = inl (refl, refl)
slice_get_push [] x (suc i) = inr refl
slice_get_push (y ∷ xs) x zero = inr refl
slice_get_push (y ∷ xs) x (suc i) =
    elim (slice_get_push xs x i) [
      | inl (e, f) ↦ inl ((let e' : i ≡ length xs = e in omega arith), f)
      | inr same ↦ inr same
    ]

module _ {K X : Type 0} {R : K → K → Ordering} (exact : CmpEqualImpliesEq R) (places places' : BTreeMap K ℕ) (xs ys : List X) (key : X → Option K)
    (indexes : AreFound R places xs key) (k0 : K) (x0 : X) (adds : AddsItem R xs ys places places' k0 x0) (has : key x0 ≡ Some k0) (absent : get R places k0 ≡ None) where
  unused : (i : ℕ) (x : X) → get R places k0 ≡ Some i → slice_get xs i ≡ Some x → ⊥
  unused i x h e = cc

  pub found_after_push : AreFound R places' ys key
  found_after_push =
      let longer : length ys ≡ length xs + 1 = rw adds.items (omega (arith, length-append xs (x0 ∷ []))) in
      let P : ℕ → Type 0 = λ m. Indexes (λ k. get R places' k) (λ i. slice_get ys i) key m in
      subst P (sym longer)
      (add _ _ _ _ indexes (λ k. get R places' k) k0 (after_update exact places places' k0 (Some (length xs)) adds.places) unused adds.places.1
      (λ i. slice_get ys i) x0 has
      (λ i. (let Q : List X → Type 0 = λ l. ((i ≡ length xs) × (slice_get l i ≡ Some x0)) ⊎ (slice_get l i ≡ slice_get xs i) in
      subst Q (sym adds.items) (slice_get_push xs x0 i))))

-- an index after a push that may find no memory
pub found_after_try : {K X E : Type 0} {R : K → K → Ordering} → CmpEqualImpliesEq R → (places places' : BTreeMap K ℕ) (xs ys : List X) (key : X → Option K)
    → AreFound R places xs key → (k0 : K) (x0 : X) → key x0 ≡ Some k0 → get R places k0 ≡ None
    → (r : Result (Unit {0}) E) → OnOk r (AddsItem R xs ys places places' k0 x0) → OnErr r (KeepsTable xs ys places places') → AreFound R places' ys key
found_after_try exact places places' xs ys key indexes k0 x0 has absent (Ok u) adds keeps =
    found_after_push exact places places' xs ys key indexes k0 x0 adds has absent
found_after_try {K} {X} {R = R} exact places places' xs ys key indexes k0 x0 has absent (Err e) adds keeps =
    let P : List (K × ℕ) → Type 0 = λ es. Indexes (λ k. lookup (is_at (R k)) es) (λ i. slice_get ys i) key (length ys) in
    let Q : List X → Type 0 = λ l. Indexes (λ k. get R places k) (λ i. slice_get l i) key (length l) in
    subst P (sym keeps.places) (subst Q (sym keeps.items) indexes)

-- an index after a push that may leave all as it was
pub found_or_alike : {K X E : Type 0} {R : K → K → Ordering} → CmpEqualImpliesEq R → (places places' : BTreeMap K ℕ) (xs ys : List X) (key : X → Option K)
    → AreFound R places xs key → (k0 : K) (x0 : X) → key x0 ≡ Some k0 → get R places k0 ≡ None
    → (r : Result (Unit {0}) E) → OnOk r (AddsItem R xs ys places places' k0 x0) → OnErr r (IsAlike R xs ys places places') → AreFound R places' ys key
found_or_alike exact places places' xs ys key indexes k0 x0 has absent (Ok u) adds keeps =
    found_after_push exact places places' xs ys key indexes k0 x0 adds has absent
found_or_alike {K} {X} {R = R} exact places places' xs ys key indexes k0 x0 has absent (Err e) adds keeps =
    let Q : List X → Type 0 = λ l. Indexes (λ k. get R places' k) (λ i. slice_get l i) key (length l) in
    subst Q (sym keeps.items) (alike _ _ _ _ indexes (λ k. get R places' k) keeps.places)

-- a key whose item is not found leads nowhere
pub absent_place : {K X : Type 0} (R : K → K → Ordering) (places : BTreeMap K ℕ) (xs : List X) (key : X → Option K) → AreFound R places xs key
    → (k0 : K) → option_and_then (λ i. slice_get xs i) (get R places k0) ≡ None → get R places k0 ≡ None
absent_place R places xs key indexes k0 none = at (get R places k0) refl none
  where
    at : (o : Option ℕ) → get R places k0 ≡ o → option_and_then (λ i. slice_get xs i) o ≡ None → o ≡ None
    at None e h = refl
    at (Some i) e h =
        let lt : i < length xs = indexes.below k0 i e in
        elim ((slice_get_cases xs i).1) [
          | inl (x, lt', is, got) ↦ (let t : Some x ≡ None = sym is ∙ h in cc)
          | inr (le, is) ↦ (let le' : length xs ≤ i = le in absurd (omega arith))
        ]

-- what is not some is none
pub none_from_test : {X : Type 0} (o : Option X) → is_some o ≡ false → o ≡ None
none_from_test None h = refl
none_from_test (Some x) h = cc

-- whether there is a value shows in what a loan points to
pub is_some-copied : {X : Type 0} (o : Option (Bor X)) (p : Option X) → option_copied o ≡ p → is_some o ≡ is_some p
is_some-copied None p h = rw (← h) refl
is_some-copied (Some x) p h = rw (← h) refl

-- ---- keys of what is not there

module _ (n : Numbers) (ds : List DatasetId) (dp : BTreeMap DatasetKey ℕ) (xs : List Artifact) (ap : BTreeMap ItemKey ℕ) (ts : List Tag) (tp : BTreeMap ItemKey ℕ)
    (live : BTreeMap ℕ Reservation) (serials : BTreeMap ItemKey ℕ) (next : ℕ) (indexed : IsIndexed n ds dp xs ap ts tp live serials next) where
  pub absent_dataset : (d : DatasetId) (k : DatasetKey) → dataset_key n d ≡ Some k → is_some (find (same_dataset d) ds) ≡ false → get dataset_cmp dp k ≡ None
  absent_dataset d k has none =
      absent_place dataset_cmp dp ds (dataset_key n) indexed.datasets_found k
      (sym (dataset_answer n indexed.numbering dp ds indexed.datasets_found d (Some k) (sym has)) ∙ none_from_test _ none)

  pub absent_artifact : (d : DatasetId) (id : Text) (k : ItemKey) → item_key n d id ≡ Some k → find (is_artifact d id) xs ≡ None → get item_cmp ap k ≡ None
  absent_artifact d id k has none =
      absent_place item_cmp ap xs (artifact_key n) indexed.artifacts_found k
      (sym (artifact_answer n indexed.numbering ap xs indexed.artifacts_found d id (Some k) (sym has)) ∙ none)

  pub absent_tag : (d : DatasetId) (name : Text) (k : ItemKey) → item_key n d name ≡ Some k → find (is_tag d name) ts ≡ None → get item_cmp tp k ≡ None
  absent_tag d name k has none =
      absent_place item_cmp tp ts (tag_key n) indexed.tags_found k
      (sym (tag_answer n indexed.numbering tp ts indexed.tags_found d name (Some k) (sym has)) ∙ none)
